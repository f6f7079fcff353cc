use Rattle.std.proofs.Common.{ℕ, List, ◌≡◌, ◌++◌, ◌∙◌, ap, append_assoc, codes, string_bytes}
use Rattle.page_events.specs.Json.{member, text_member, word_json}
use Rattle.page_links.specs.printing.Faults.{finding_words}
use Rattle.page_links.specs.printing.Lines.{file_member, position_members}
use Rattle.page_links.proofs.TextLemmas.{longer}
use Rattle.page_links.proofs.printing.json.push_fault_json.Goals as goal

joined : (text file position fault words last : List ℕ)
    → ((((text ++ file) ++ position) ++ fault) ++ words) ++ last ≡ text ++ (file ++ (position ++ (fault ++ (words ++ last))))
joined text file position fault words last = simp append_assoc

pub returns : goal.returns
returns c =
    let text = string_bytes c.args.text.now in
    let file = file_member c.args.name.now in
    let position = position_members c.args.position in
    let fault = member (codes "fault") (word_json (finding_words c.args.report.now.finding)) in
    let words = text_member (codes "text") (string_bytes c.args.report.now.text) in
    let there = c.in_ok-push_position.ensures ∙ ap (λ t. t ++ position) c.in_ok-push_file.ensures in
    let named = c.in_ok-push_finding_word.ensures ∙ ap (λ t. t ++ fault) there in
    let shown = rw c.as_str.ensures.value at c.in_ok-push_text.ensures in
    let said = shown ∙ ap (λ t. t ++ words) named in
    longer c.push_str.result _ _ _ _ c.push_str.ensures.bytes
    (ap (λ t. t ++ codes "}\n") said ∙ joined text file position fault words (codes "}\n"))
