use Rattle.std.proofs.Common.{◌≡◌, ◌∙◌, ◌++◌, OnOk, List, ℕ, ap, subst, append_assoc, codes, string_bytes}
use Rattle.page_events.specs.Json.{kind_members, member, word_json}
use Rattle.page_events.specs.Lines.{element_name}
use Rattle.page_events.proofs.json.elements.push_element.Goals as goal

pub returns : goal.returns
returns c =
    let before = string_bytes c.args.text.now in
    subst (λ (bytes : List ℕ). OnOk c.push_kind.result (string_bytes c.push_kind.new.text ≡ bytes))
    (ap (λ bytes. bytes ++ kind_members c.args.tag)
    (c.in_ok-push_word.ensures ∙ ap (λ name. before ++ member (codes "element") (word_json name)) c.element_name.ensures)
    ∙ append_assoc before (member (codes "element") (word_json (element_name c.args.tag))) (kind_members c.args.tag))
    c.push_kind.ensures
