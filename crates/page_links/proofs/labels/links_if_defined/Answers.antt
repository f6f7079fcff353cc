use Rattle.std.proofs.Common.{[], ◌∷◌, ◌++◌, map, sym, ap, ◌∙◌, append_assoc, append-nil}
use Rattle.std.specs.List.{filter_map}
use Rattle.std.specs.Option.{option_to_list}
use Rattle.markdown_events.specs.InlineEvents.{seen_event}
use Rattle.page_links.specs.labels.Labels.{everywhere}
use Rattle.page_links.specs.links.Links.{link_of, seen_link}
use Rattle.page_links.proofs.LinkLemmas.{mapped_first}
use Rattle.page_links.proofs.labels.links_if_defined.Goals as goal

pub loop-links-init : goal.loop-links-init
loop-links-init c = λ later gives. (
  later,
  c.in_ok-reader.ensures.broken everywhere later gives,
  ap (λ items. map seen_link items ++ filter_map link_of later) c.new-links.ensures.items,
)

pub loop-links-preserved : goal.loop-links-preserved
loop-links-preserved c = λ later gives.
    let event = seen_event c.in-Some.event in
    let given = rw c.in-Some.is at c.in_ok-event.ensures.event in
    let whole = c.loop-links.invariant (event ∷ later) (given later gives) in (
      whole.0,
      whole.1,
      ap (λ links. links ++ filter_map link_of later) c.in_ok-push_link.ensures
          ∙ append_assoc (map seen_link c.loop-links.links.items) (option_to_list (link_of event)) (filter_map link_of later)
          ∙ ap (λ links. map seen_link c.loop-links.links.items ++ links) (sym (mapped_first link_of event later)) ∙ whole.2,
    )

pub returns : goal.returns
returns c =
    let none = rw c.in_default.is at c.in_ok-event.ensures.none in
    let whole = c.loop-links.invariant [] none in
    record { events = whole.0; are_events = whole.1; are_links = sym (append-nil (map seen_link c.loop-links.links.items)) ∙ whole.2 }
