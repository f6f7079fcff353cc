use Rattle.std.proofs.Common.{◌+◌, ◌-◌, ◌≤◌, ◌≡◌, false, length}
use Rattle.markdown_blocks.proofs.walk.WalkLemmas.{Opening}
use Rattle.markdown_blocks.proofs.walk.open_containers.Given as goal

-- the containers that are begun so far are open, and each has a byte at least
abbrev pub invariant-loop-container : goal.invariant-loop-container
invariant-loop-container l =
    (l.start.bytes ≡ l.line) × (l.rest.indent ≤ 4) × Opening (record {
      extensions = l.extensions;
      containers = l.fn.outer.items;
      term = l.is_after_term;
      paragraph = false;
    }) l.line
    l.outer.items l.count l.rest l.start l.asked
    × (length l.outer.items ≤ l.count + l.start.offset) × (l.start.offset ≤ length l.line)

abbrev pub decreases-loop-container : goal.decreases-loop-container
decreases-loop-container l = length l.line - l.start.offset
