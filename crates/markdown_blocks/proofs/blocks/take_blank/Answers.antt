use Rattle.markdown_blocks.proofs.blocks.TextFirst.{none_blank}
use Rattle.markdown_blocks.proofs.blocks.take_blank.Goals as goal

pub returns-then-is_text_at : goal.returns-then-is_text_at
returns-then-is_text_at c =
    none_blank c.args.text.now c.args.first c.args.outer.now (c.is_text_at.ensures c.if-is_text_at.true)
