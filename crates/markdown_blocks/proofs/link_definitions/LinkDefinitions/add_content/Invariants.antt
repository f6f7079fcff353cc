use Rattle.std.proofs.Common.{◌-◌, ◌≤◌, length}
use Rattle.markdown_blocks.specs.link_definitions.LinkDefinitions.{AreAddedUpTo}
use Rattle.markdown_blocks.proofs.link_definitions.LinkDefinitions.add_content.Given as goal

abbrev pub invariant-loop-definition : goal.invariant-loop-definition
invariant-loop-definition l = (l.used ≤ length l.content) × AreAddedUpTo l.used l.content l.fn.self l.self

abbrev pub decreases-loop-definition : goal.decreases-loop-definition
decreases-loop-definition l = length l.content - l.used
