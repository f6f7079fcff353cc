use Rattle.std.proofs.Common.{[], ◌∷◌, ◌++◌, ◌∙◌, map, refl, sym, ap, append-nil, append_assoc}
use Rattle.std.proofs.lemmas.List.{map-append}
use Rattle.markdown_blocks.specs.events.Events.{seen_event}
use Rattle.markdown_blocks.proofs.link_definitions.NamedLemmas.{none_added, added_both, added_before}
use Rattle.markdown_events.proofs.page.blocks_of.push_leaves.Goals as goal

pub loop-event-init : goal.loop-event-init
loop-event-init c = record {
  are_given = λ later gives. (later, gives, refl);
  are_added = none_added _ _ c.args.content.now _ _ refl refl;
}

pub loop-event-preserved : goal.loop-event-preserved
loop-event-preserved c =
    let event = rw c.in-Some.is at c.in_ok-event.ensures.event in
    record {
      are_given = λ later gives.
          let whole = c.loop-event.invariant.are_given (seen_event c.in-Some.event ∷ later) (event later gives) in (
            whole.0,
            whole.1,
            ap (λ es. map seen_event es ++ later) c.in_ok-push.ensures.items
                ∙ ap (λ es. es ++ later) (map-append seen_event c.loop-event.blocks.items (c.in-Some.event ∷ []))
                ∙ append_assoc (map seen_event c.loop-event.blocks.items) (seen_event c.in-Some.event ∷ []) later ∙ whole.2,
          );
      are_added = added_both _ _ _ c.args.content.now _ _ _ c.loop-event.invariant.are_added c.in_ok-event.ensures.added;
    }

pub returns-clause-events : goal.returns-clause-events
returns-clause-events c =
    let whole = c.loop-event.invariant.are_given [] (rw c.in_default.is at c.in_ok-event.ensures.none) in
    (whole.0, whole.1, sym (append-nil (map seen_event c.loop-event.blocks.items)) ∙ whole.2)

pub returns-clause-named : goal.returns-clause-named
returns-clause-named c =
    let before = added_both _ _ _ c.args.content.now _ _ _ c.loop-event.invariant.are_added c.in_ok-event.ensures.added in
    let rest = rw c.content_left.ensures at c.in_ok-add_content.ensures.added in (
      before.0 ++ rest.0,
      before.1 rest.0 rest.1,
      λ asked. rest.2 asked ∙ added_before _ _ before.0 rest.0 asked (before.2 asked),
    )
