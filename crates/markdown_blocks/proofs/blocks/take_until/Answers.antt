use Rattle.markdown_blocks.specs.blocks.Endings.{IsEnd}
use Rattle.markdown_blocks.proofs.kinds.KindLemmas.{not_given}
use Rattle.markdown_blocks.proofs.taken.TakenLemmas.{passed-more, until-found}
use Rattle.markdown_blocks.proofs.blocks.take_until.Goals as goal

pub loop-line-preserved : goal.loop-line-preserved
loop-line-preserved c =
    passed-more (IsEnd c.args.outer.now c.args.ending) c.args.text.now c.args.first c.loop-line.taken c.in-Some.more c.in-Some.line.now c.loop-line.invariant
    c.in-Some.ensures.line (not_given c.if-ends.false (rw c.new.ensures at c.ends.ensures).1)

pub returns-then-ends : goal.returns-then-ends
returns-then-ends c =
    until-found (IsEnd c.args.outer.now c.args.ending) c.args.text.now c.args.first c.loop-line.taken c.in-Some.more c.in-Some.line.now
    c.loop-line.invariant c.in-Some.ensures.line ((rw c.new.ensures at c.ends.ensures).0 c.if-ends.true)
