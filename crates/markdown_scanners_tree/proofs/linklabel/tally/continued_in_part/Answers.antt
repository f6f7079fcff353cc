use Rattle.std.proofs.Common.{sym, arith}
use Rattle.std.proofs.lemmas.List.Sums.{sum_by_more_le}
use Rattle.markdown_scanners_tree.specs.linklabel.private.Pass.{continued}
use Rattle.markdown_scanners_tree.proofs.linklabel.WordSteps.{continued_more, count_within}
use Rattle.markdown_scanners_tree.proofs.linklabel.tally.continued_in_part.Goals as goal

pub overflow_add-count : goal.overflow_add-count
overflow_add-count c =
    let bytes = c.args.bytes.now in
    let more = sum_by_more_le continued bytes c.loop-byte.byte-index 0 c.loop-byte-test.true in
    rw (c.loop-byte.invariant, c.continued-count.ensures) (omega (arith, more, count_within bytes, c.requires))

pub loop-byte-preserved : goal.loop-byte-preserved
loop-byte-preserved c =
    rw (c.loop-byte.invariant, c.continued-count.ensures)
    (sym (continued_more c.args.bytes.now c.loop-byte.byte-index c.loop-byte-test.true))
