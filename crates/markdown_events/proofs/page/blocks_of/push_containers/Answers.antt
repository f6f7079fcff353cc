use Rattle.std.proofs.Common.{[], ◌∷◌, ◌++◌, ◌∙◌, map, refl, ap, append_assoc}
use Rattle.std.proofs.lemmas.List.{map-append}
use Rattle.markdown_blocks.specs.events.Events.{seen_event}
use Rattle.markdown_events.proofs.page.blocks_of.push_containers.Goals as goal

pub loop-event-init : goal.loop-event-init
loop-event-init c = record {
  are_given = λ content later gives. (later, gives, refl);
  used = refl;
  part = refl;
}

pub loop-event-preserved : goal.loop-event-preserved
loop-event-preserved c =
    let before = map seen_event c.loop-event.blocks.items in
    let event = c.in-Some.event in
    record {
      are_given = λ content later gives.
          let whole = c.loop-event.invariant.are_given content (seen_event event ∷ later) (c.in-Some.ensures.event content later gives) in (
            whole.0,
            whole.1,
            ap (λ es. map seen_event es ++ later) c.in_ok-push.ensures.items
                ∙ ap (λ es. es ++ later) (map-append seen_event c.loop-event.blocks.items (event ∷ []))
                ∙ append_assoc before (seen_event event ∷ []) later ∙ whole.2,
          );
      used = c.in-Some.ensures.same ∙ c.loop-event.invariant.used;
      part = c.in-Some.ensures.part ∙ c.loop-event.invariant.part;
    }
