use Rattle.markdown_blocks.proofs.rows.RowLemmas.{after_next}
use Rattle.markdown_blocks.proofs.rows.with_next.Goals as goal

pub returns-in-Some : goal.returns-in-Some
returns-in-Some c = after_next c.args.lines.now c.args.read c.in-Some.more c.in-Some.field-0-0.now c.in-Some.ensures.line
