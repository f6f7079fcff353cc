use Rattle.std.proofs.Common.{arith}
use Rattle.markdown_scanners_c.proofs.Sides.{last_of_four}
use Rattle.markdown_scanners_c.proofs.delimiter_runs.last_len.Goals as goal

pub returns-clause-boundary : goal.returns-clause-boundary
returns-clause-boundary c utf8 =
    last_of_four c.args.bytes.now utf8 c.min-most.result c.min-most.ensures
    (λ k some below. c.loop-count.invariant k some (omega (arith, below, c.loop-count-test.false)))
