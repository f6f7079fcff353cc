use Rattle.std.proofs.Common.{◌≡◌, ◌∙◌, ◌++◌, OnOk, List, ℕ, ap, subst, append_assoc, string_bytes}
use Rattle.markdown_values.specs.strings.Text.{cow_text}
use Rattle.markdown_values.specs.values.Tags.{tag_view}
use Rattle.markdown_events.specs.TagEnds.{tag_end}
use Rattle.page_events.specs.Json.{element_members, start_members}
use Rattle.page_events.proofs.JsonLemmas.{ends_alike}
use Rattle.page_events.proofs.json.elements.push_start.Goals as goal

pub returns : goal.returns
returns c =
    let before = string_bytes c.args.text.now in
    let view = tag_view cow_text c.args.tag.now in
    subst (λ (bytes : List ℕ). OnOk c.push_held.result (string_bytes c.push_held.new.text ≡ bytes))
    (ap (λ bytes. bytes ++ start_members view)
    (c.in_ok-push_element.ensures ∙ ap (λ end. before ++ element_members end) (c.to_end.ensures ∙ ends_alike c.args.tag.now))
    ∙ append_assoc before (element_members (tag_end view)) (start_members view))
    c.push_held.ensures
