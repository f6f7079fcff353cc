use Rattle.std.proofs.Common.{ℕ, List, ◌≡◌, ◌++◌, ◌∙◌, ap, append_assoc, codes, string_bytes}
use Rattle.page_events.specs.Lines.{quoted}
use Rattle.page_links.specs.printing.Faults.{finding_words}
use Rattle.page_links.specs.printing.Lines.{position_words}
use Rattle.page_links.proofs.TextLemmas.{longer}
use Rattle.page_links.proofs.printing.faults.push_fault_line.Goals as goal

joined : (text position fault words last : List ℕ)
    → (((text ++ position) ++ fault) ++ words) ++ last ≡ text ++ (position ++ (fault ++ (words ++ last)))
joined text position fault words last = simp append_assoc

pub returns : goal.returns
returns c =
    let text = string_bytes c.args.text.now in
    let position = position_words c.args.name.now c.args.position in
    let fault = finding_words c.args.report.now.finding in
    let words = quoted (string_bytes c.args.report.now.text) in
    let said = rw c.finding_words.ensures at c.in_ok-push_str.ensures.bytes in
    let named = said ∙ ap (λ t. t ++ fault) c.in_ok-push_position.ensures in
    let shown = rw c.as_str.ensures.value at c.in_ok-push_quoted.ensures in
    let before = shown ∙ ap (λ t. t ++ words) named in
    longer c.push_str-2.result _ _ _ _ c.push_str-2.ensures.bytes (ap (λ t. t ++ codes "\n") before ∙ joined text position fault words (codes "\n"))
