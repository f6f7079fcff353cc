use Rattle.std.proofs.Common.{◌≡◌, ◌≤◌, length, drop, true}
use Rattle.std.specs.List.{list_all}
use Rattle.markdown_blocks.specs.containers.Containers.{goes_on_blank}
use Rattle.markdown_blocks.proofs.containers.OpenContainers.new.Given as goal

-- the containers from there on go on with blank lines
abbrev pub invariant-loop-plain : goal.invariant-loop-plain
invariant-loop-plain l = (l.plain ≤ length l.containers) × (list_all goes_on_blank (drop l.plain l.containers) ≡ true)

abbrev pub decreases-loop-plain : goal.decreases-loop-plain
decreases-loop-plain l = l.plain
