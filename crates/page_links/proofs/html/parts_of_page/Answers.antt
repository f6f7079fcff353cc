use Rattle.std.proofs.Common.{[], ◌∷◌, ◌++◌, map, sym, ap, ◌∙◌, append_assoc, append-nil}
use Rattle.std.specs.List.{filter_map}
use Rattle.std.specs.Option.{option_to_list}
use Rattle.markdown_events.specs.InlineEvents.{seen_event}
use Rattle.page_links.specs.html.Html.{part_of, seen_part}
use Rattle.page_links.proofs.LinkLemmas.{mapped_first}
use Rattle.page_links.proofs.html.parts_of_page.Goals as goal

pub loop-parts-init : goal.loop-parts-init
loop-parts-init c = λ later gives. (
  later,
  c.in_ok-reader.ensures.page later gives,
  ap (λ items. map seen_part items ++ filter_map part_of later) c.new-parts.ensures.items,
)

pub loop-parts-preserved : goal.loop-parts-preserved
loop-parts-preserved c = λ later gives.
    let event = seen_event c.in-Some.event in
    let given = rw c.in-Some.is at c.in_ok-event.ensures.event in
    let whole = c.loop-parts.invariant (event ∷ later) (given later gives) in (
      whole.0,
      whole.1,
      ap (λ parts. parts ++ filter_map part_of later) c.in_ok-push_part.ensures
          ∙ append_assoc (map seen_part c.loop-parts.parts.items) (option_to_list (part_of event)) (filter_map part_of later)
          ∙ ap (λ parts. map seen_part c.loop-parts.parts.items ++ parts) (sym (mapped_first part_of event later)) ∙ whole.2,
    )

pub returns : goal.returns
returns c =
    let parts = map seen_part c.loop-parts.parts.items in
    let none = rw c.in_default.is at c.in_ok-event.ensures.none in
    let whole = c.loop-parts.invariant [] none in
    record { events = whole.0; are_events = whole.1; are_parts = sym (append-nil parts) ∙ whole.2 }
