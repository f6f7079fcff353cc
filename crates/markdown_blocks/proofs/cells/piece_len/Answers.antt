use Rattle.std.proofs.Common.{arith}
use Rattle.std.proofs.lemmas.List.{drop_all}
use Rattle.markdown_blocks.proofs.cells.CellLemmas.{ended_here, goes_on}
use Rattle.markdown_blocks.proofs.cells.piece_len.Goals as goal

pub returns-then-separates-clause-length : goal.returns-then-separates-clause-length
returns-then-separates-clause-length c =
    let l = c.loop-byte in
    omega (
      arith,
      l.invariant.1,
      ended_here c.args.row.now l.byte-index l.before c.loop-byte-test.true c.separates.result c.separates.ensures c.if-separates.true,
    )

pub loop-byte-preserved : goal.loop-byte-preserved
loop-byte-preserved c =
    let l = c.loop-byte in (
      omega (arith, l.invariant.0),
      omega (
        arith,
        l.invariant.1,
        goes_on c.args.row.now l.byte-index l.before c.loop-byte-test.true c.separates.result c.separates.ensures c.if-separates.false,
      ),
    )

pub returns-clause-length : goal.returns-clause-length
returns-clause-length c =
    let l = c.loop-byte in
    let none = drop_all l.byte-index c.args.row.now c.loop-byte-test.false in
    let all = rw none at l.invariant.1 in omega (arith, all)
