use Rattle.std.proofs.Common.{arith, sym}
use Rattle.std.proofs.lemmas.Int.Digits.{digits_value_more}
use Rattle.markdown_scanners_tree.proofs.scanners.numbers.NumberLemmas.{below_power}
use Rattle.markdown_scanners_tree.proofs.scanners.numbers.number_of.Goals as goal

pub overflow_mul-number : goal.overflow_mul-number
overflow_mul-number c =
    let below = below_power c.args.radix c.args.digits.now c.loop-b.b-index
    (omega (arith, c.requires.base)) c.requires.digits_only c.loop-b-test.true in
    rw c.loop-b.invariant (omega (arith, below, c.requires.fits))

pub overflow_add-number : goal.overflow_add-number
overflow_add-number c =
    let below = below_power c.args.radix c.args.digits.now c.loop-b.b-index
    (omega (arith, c.requires.base)) c.requires.digits_only c.loop-b-test.true in
    rw (c.loop-b.invariant, c.digit_of.ensures) (omega (arith, below, c.requires.fits))

pub loop-b-preserved : goal.loop-b-preserved
loop-b-preserved c =
    rw (c.loop-b.invariant, c.digit_of.ensures)
    (sym (digits_value_more c.args.radix c.args.digits.now c.loop-b.b-index c.loop-b-test.true))
