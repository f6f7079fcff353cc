use Rattle.std.proofs.Common.{[], ◌++◌, ◌<◌, ◌∙◌, length, drop, map, replicate, refl, sym, ap, subst, arith, append_assoc}
use Rattle.std.proofs.lemmas.List.{drop-drop, length-drop}
use Rattle.markdown_blocks.specs.events.Events.{IsEventsOf, ends, seen_event}
use Rattle.markdown_blocks.specs.events.Given.{BlockLeft}
use Rattle.markdown_blocks.specs.link_definitions.LinkDefinitions.{known_as}
use Rattle.markdown_blocks.proofs.taken.TakenLemmas.{slice_after}
use Rattle.markdown_blocks.proofs.link_definitions.NamedLemmas.{none_left, whole_page, block_named, none_later, added_before}
use Rattle.markdown_events.proofs.page.blocks_of.ReadLemmas.{all_end, block_given, some_line, whole_page as whole_events}
use Rattle.markdown_events.proofs.page.blocks_of.read_bytes.Goals as goal

pub loop-content-init : goal.loop-content-init
loop-content-init c = record {
  within = c.text_start-bytes.ensures.within;
  few = omega arith;
  are_events = λ later left.
      subst (λ blocks. IsEventsOf c.args.extensions c.args.page.now (map seen_event blocks ++ later)) (sym c.new-blocks.ensures.items)
      (whole_events c.args.extensions c.args.page.now later (rw (c.new_ext-walk.ensures.none, c.text_start-bytes.ensures.start) at left));
  are_known = λ later left. (
    later,
    whole_page c.args.extensions c.args.page.now later (rw (c.new_ext-walk.ensures.none, c.text_start-bytes.ensures.start) at left),
    λ label. rw c.new-known.ensures.none refl,
  );
}

pub push_events-requires : goal.push_events-requires
push_events-requires c = record {
  some = subst (λ (left : BlockLeft). 0 < length left.part.lines) (sym c.new-events.ensures)
      (some_line c.in-Some.step (rw c.in-Some.is at c.in_ok-step.ensures.some));
}

pub loop-content-preserved : goal.loop-content-preserved
loop-content-preserved c =
    let page = c.args.page.now in
    let same = slice_after page c.loop-content.bytes in
    let size = ap length same in
    let within = rw c.in-Some.is at c.in_ok-step.ensures.within in
    let step = rw (c.in-Some.is, same) at c.in_ok-step.ensures.step in
    let gathered = rw c.in-Some.is at c.in_ok-step.ensures.content in
    let given =
    rw (c.containers.ensures.containers, c.deref.ensures.value, c.new-events.ensures, c.containers-depth.ensures.containers)
    at c.in_ok-push_events.ensures.events in
    let added = rw (c.deref.ensures.value, c.new-events.ensures) at c.in_ok-push_events.ensures.named in
    let before = map seen_event c.loop-content.blocks.items in
    record {
      within = omega (arith, within, size, length-drop c.loop-content.bytes page, c.loop-content.invariant.within);
      few = omega (arith, c.loop-content.invariant.few, c.in-Some.step.block.taken.few);
      are_events = λ later left.
          let whole = block_given c.loop-content.walk c.next_block.new.self (drop c.loop-content.bytes page) c.in-Some.step
          (step [] (λ ended. refl)) (record { lines = c.loop-content.lines; bytes = c.loop-content.bytes; few = c.loop-content.invariant.few })
          c.next_block.new.content.items gathered given.0 later given.1 (rw drop-drop left) in
          subst (IsEventsOf c.args.extensions page) (sym (append_assoc before given.0 later) ∙ ap (λ es. es ++ later) (sym given.2))
          (c.loop-content.invariant.are_events (given.0 ++ later) whole);
      are_known = λ later left.
          let whole = c.loop-content.invariant.are_known (added.0 ++ later)
          (block_named c.loop-content.walk c.next_block.new.self _ c.in-Some.step c.next_block.new.content.items added.0 later
          (step [] (λ ended. refl)) gathered added.1 (rw drop-drop left)) in
          (whole.0, whole.1, λ label. added_before _ _ added.0 later label (added.2 label) ∙ whole.2 label);
    }

pub returns-in_default-clause-blocks : goal.returns-in_default-clause-blocks
returns-in_default-clause-blocks c =
    let rest = drop c.loop-content.bytes c.args.page.now in
    let none = rw (c.in_default.is, slice_after c.args.page.now c.loop-content.bytes) at c.in_ok-step.ensures.all in
    let added = rw c.containers-depth.ensures.containers at c.in_ok-push_ends.ensures in
    subst (IsEventsOf c.args.extensions c.args.page.now) (sym added)
    (c.loop-content.invariant.are_events (replicate (length c.loop-content.walk.containers) ends)
    (all_end c.loop-content.walk rest c.loop-content.lines c.loop-content.bytes (none refl)))

pub returns-in_default-clause-first : goal.returns-in_default-clause-first
returns-in_default-clause-first c =
    let none = rw (c.in_default.is, slice_after c.args.page.now c.loop-content.bytes) at c.in_ok-step.ensures.all in
    let whole = c.loop-content.invariant.are_known [] (none_left c.loop-content.walk _ (none refl)) in
    (whole.0, whole.1, λ label. ap (λ known. known_as known label) c.new.ensures ∙ (none_later c.loop-content.known label ∙ whole.2 label))
