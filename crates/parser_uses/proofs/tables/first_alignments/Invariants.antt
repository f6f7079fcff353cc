use Rattle.markdown_blocks.specs.events.Given.{events_left}
use Rattle.parser_uses.proofs.tables.first_alignments.Given as goal

abbrev pub decreases-loop-blocks : goal.decreases-loop-blocks
decreases-loop-blocks l = events_left l.blocks
