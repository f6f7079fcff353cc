use Rattle.std.proofs.Common.{◌≡◌, ◌+◌, drop, length}
use Rattle.markdown_blocks.specs.containers.Containers.{match_line, go_on}
use Rattle.markdown_blocks.proofs.containers.go_on_in.Given as goal

-- what the line goes on with of the rest, it goes on with of all
abbrev pub invariant-loop-rest : goal.invariant-loop-rest
invariant-loop-rest l =
    ((match_line l.outer.containers l.line).kept ≡ l.kept + (go_on l.blank l.rest l.start).kept)
    × ((match_line l.outer.containers l.line).state ≡ (go_on l.blank l.rest l.start).state)
    × (l.start.bytes ≡ l.line) × (l.kept + length l.rest ≡ length l.outer.containers)
    × (l.rest ≡ drop l.kept l.outer.containers)

abbrev pub decreases-loop-rest : goal.decreases-loop-rest
decreases-loop-rest l = length l.rest
