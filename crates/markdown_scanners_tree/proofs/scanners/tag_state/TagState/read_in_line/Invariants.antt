use Rattle.std.proofs.Common.{length, ◌-◌, ◌≤◌, ◌≡◌, take, false}
use Rattle.markdown_scanners_tree.specs.scanners.tag_state.private.TagMachine.{LeadsTo, is_final}
use Rattle.markdown_scanners_tree.proofs.scanners.tag_state.TagState.read_in_line.Given as goal

abbrev pub invariant-loop-offset : goal.invariant-loop-offset
invariant-loop-offset l =
    LeadsTo l.fn.self (take l.offset l.bytes) l.state × (l.offset ≤ length l.bytes) × (is_final l.state ≡ false)

abbrev pub decreases-loop-offset : goal.decreases-loop-offset
decreases-loop-offset l = length l.bytes - l.offset
