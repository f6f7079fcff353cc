use Rattle.std.proofs.Common.{arith}
use Rattle.std.proofs.lemmas.List.{drop_all}
use Rattle.markdown_scanners_tree.specs.Ascii.{space}
use Rattle.markdown_blocks.proofs.tables.TableLemmas.{ends_from-front, counted_next, ends_next, few_more}
use Rattle.markdown_blocks.proofs.tables.count_separators.Goals as goal

pub loop-byte-init : goal.loop-byte-init
loop-byte-init c = (omega arith, ends_from-front space c.args.row.now, omega arith)

pub loop-byte-preserved : goal.loop-byte-preserved
loop-byte-preserved c = (
  counted_next c.args.row.now c.loop-byte.byte-index c.loop-byte.before c.loop-byte-test.true c.separates-is_last.result c.separates-is_last.ensures
      c.loop-byte.count c.from-count.result _ c.from-count.ensures c.loop-byte.invariant.0,
  ends_next c.args.row.now c.loop-byte.byte-index c.loop-byte.before c.loop-byte-test.true c.separates-is_last.result c.separates-is_last.ensures
      c.loop-byte.is_last _ c.loop-byte.invariant.1,
  few_more c.separates-is_last.result c.loop-byte.count c.loop-byte.byte-index c.from-count.result c.from-count.ensures c.loop-byte.invariant.2,
)

pub returns-clause-last : goal.returns-clause-last
returns-clause-last c = rw (drop_all c.loop-byte.byte-index c.args.row.now c.loop-byte-test.false) at c.loop-byte.invariant.1
