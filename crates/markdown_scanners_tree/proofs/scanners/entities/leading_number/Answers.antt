use Rattle.std.proofs.Common.{◌<◌, arith, add-one, sym, subst, get_or, take}
use Rattle.std.specs.Char.{digit_value}
use Rattle.std.specs.Str.Parse.{AllDigits}
use Rattle.std.proofs.lemmas.Int.Digits.{digits_value_more}
use Rattle.markdown_scanners_tree.proofs.scanners.entities.DigitLemmas.{digits_counted, digits_more, number_fits}
use Rattle.markdown_scanners_tree.proofs.scanners.entities.leading_number.Goals as goal

pub returns-then-digit-radix-clause-count : goal.returns-then-digit-radix-clause-count
returns-then-digit-radix-clause-count c =
    digits_counted c.args.radix c.args.bytes.now c.loop-n.n c.loop-n.invariant.digits c.loop-n.invariant.within
    (λ _. omega (arith, c.digit_of-digit.ensures, c.if-digit-radix.true))

pub overflow_mul-number : goal.overflow_mul-number
overflow_mul-number c =
    let fits =
    number_fits c.args.radix c.args.bytes.now c.loop-n.n (omega (arith, c.requires.base)) c.requires.hexadecimal
    c.loop-n-test.true c.requires.at_most_seven c.loop-n.invariant.digits
    (omega (arith, c.digit_of-digit.ensures, c.if-digit-radix.false)) in
    rw c.loop-n.invariant.number (omega (arith, fits))

pub overflow_add-number : goal.overflow_add-number
overflow_add-number c =
    let fits =
    number_fits c.args.radix c.args.bytes.now c.loop-n.n (omega (arith, c.requires.base)) c.requires.hexadecimal
    c.loop-n-test.true c.requires.at_most_seven c.loop-n.invariant.digits
    (omega (arith, c.digit_of-digit.ensures, c.if-digit-radix.false)) in
    rw (c.loop-n.invariant.number, c.digit_of-digit.ensures) (omega (arith, fits))

pub loop-n-preserved : goal.loop-n-preserved
loop-n-preserved c =
    let radix = c.args.radix in
    let bytes = c.args.bytes.now in
    let n = c.loop-n.n in
    let below : digit_value (get_or bytes n 0) < radix = omega (arith, c.digit_of-digit.ensures, c.if-digit-radix.false) in
    record {
      within = omega (arith, c.loop-n-test.true);
      digits = subst (λ k. AllDigits radix (take k bytes)) (sym (add-one n))
          (digits_more radix bytes n c.loop-n.invariant.digits c.loop-n-test.true below);
      number = rw (c.loop-n.invariant.number, c.digit_of-digit.ensures)
          (sym (digits_value_more radix bytes n c.loop-n-test.true));
    }

pub returns-clause-count : goal.returns-clause-count
returns-clause-count c =
    digits_counted c.args.radix c.args.bytes.now c.loop-n.n c.loop-n.invariant.digits c.loop-n.invariant.within
    (λ inside. absurd (omega (arith, inside, c.loop-n-test.false)))
