use Rattle.std.proofs.Common.{◌-◌, ◌≤◌, length}
use Rattle.markdown_blocks.proofs.content.parts.InnerLemmas.{Read}
use Rattle.markdown_blocks.proofs.content.parts.read_inner.Given as goal

abbrev pub invariant-loop-line : goal.invariant-loop-line
invariant-loop-line l = Read l.kind l.outer.containers l.lines l.fn.first l.read × (l.fn.first.bytes ≤ l.read.bytes) × (l.read.bytes ≤ length l.lines)

abbrev pub decreases-loop-line : goal.decreases-loop-line
decreases-loop-line l = length l.lines - l.read.bytes
