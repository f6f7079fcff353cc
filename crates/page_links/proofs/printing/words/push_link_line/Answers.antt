use Rattle.std.proofs.Common.{ℕ, List, ◌≡◌, ◌++◌, ◌∙◌, ap, append_assoc, codes, string_bytes}
use Rattle.page_links.specs.links.Links.{seen_link}
use Rattle.page_links.specs.printing.Lines.{link_words, position_words}
use Rattle.page_links.proofs.TextLemmas.{longer}
use Rattle.page_links.proofs.printing.words.push_link_line.Goals as goal

joined : (text position words last : List ℕ) → ((text ++ position) ++ words) ++ last ≡ text ++ (position ++ (words ++ last))
joined text position words last = simp append_assoc

pub returns : goal.returns
returns c =
    let text = string_bytes c.args.text.now in
    let position = position_words c.args.name.now c.args.position in
    let words = link_words (seen_link c.args.link.now) in
    let before = c.in_ok-push_words.ensures ∙ ap (λ t. t ++ words) c.in_ok-push_position.ensures in
    longer c.push_str.result _ _ _ _ c.push_str.ensures.bytes (ap (λ t. t ++ codes "\n") before ∙ joined text position words (codes "\n"))
