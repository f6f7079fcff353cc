use Rattle.std.proofs.Common.{◌-◌, arith}
use Rattle.markdown_blocks.proofs.block_events.GivenLemmas.{end_given, start_given, last_given, container_at}
use Rattle.markdown_blocks.proofs.block_events.BlockEvents.next_container.Goals as goal

pub returns-then-self-gt0-clause-event : goal.returns-then-self-gt0-clause-event
returns-then-self-gt0-clause-event c = λ content.
    rw (← c.self.view_is) (end_given c.args.containers.now content _ (c.self.inside.ending - 1) (omega (arith, c.if-self-gt0.true)))

pub returns-clause-event : goal.returns-clause-event
returns-clause-event c = λ content.
    rw (← c.self.view_is) (start_given c.args.containers.now content _ c.pass_marker.new.self _ c.pass_marker.result
    (omega (arith, c.if-self-gt0.false)) (container_at c.self.inside.begun c.args.containers.now _ (omega (arith, c.if-self-containers.false)))
    c.pass_marker.ensures.offset c.pass_marker.ensures.passed)

pub returns-then-self-containers-2-clause-event : goal.returns-then-self-containers-2-clause-event
returns-then-self-containers-2-clause-event c = λ content.
    rw (← c.self.view_is) (last_given c.args.containers.now content _ c.marker_offset.new.self _ c.marker_offset.result _
    (omega (arith, c.if-self-gt0.false)) (container_at c.self.inside.begun c.args.containers.now _ (omega (arith, c.if-self-containers.false)))
    (omega (arith, c.if-self-containers-2.true))
    c.marker_offset.ensures.offset c.marker_offset.ensures.passed)
