use Rattle.markdown_blocks.specs.blocks.Endings.{IsEnd}
use Rattle.markdown_blocks.proofs.taken.TakenLemmas.{through-found}
use Rattle.markdown_blocks.proofs.blocks.take_through.Goals as goal

pub returns-then-is_inside : goal.returns-then-is_inside
returns-then-is_inside c =
    through-found (IsEnd c.args.outer.now c.args.ending) c.args.text.now c.args.outer.now.containers c.args.first c.take_until-taken.result
    c.in-Some.more c.in-Some.line.now
    c.take_until-taken.ensures c.in-Some.ensures.line (c.is_inside.ensures.0 c.if-is_inside.true)
