use Rattle.markdown_blocks.specs.blocks.Leaves.{IsRow}
use Rattle.markdown_blocks.proofs.kinds.KindLemmas.{not_given}
use Rattle.markdown_blocks.proofs.taken.TakenLemmas.{passed-more, until-found}
use Rattle.markdown_blocks.proofs.tables.take_rows.Goals as goal

pub returns-then-not-is_row : goal.returns-then-not-is_row
returns-then-not-is_row c =
    until-found (λ line. ¬ IsRow c.args.outer.now line) c.args.text.now c.args.first c.loop-line.taken c.in-Some.more c.in-Some.line.now
    c.loop-line.invariant c.in-Some.ensures.line (not_given c.if-not-is_row.true (rw c.new.ensures at c.is_row.ensures).1)

pub loop-line-preserved : goal.loop-line-preserved
loop-line-preserved c =
    passed-more (λ line. ¬ IsRow c.args.outer.now line) c.args.text.now c.args.first c.loop-line.taken c.in-Some.more c.in-Some.line.now
    c.loop-line.invariant c.in-Some.ensures.line (λ none. none ((rw c.new.ensures at c.is_row.ensures).0 c.if-not-is_row.false))
