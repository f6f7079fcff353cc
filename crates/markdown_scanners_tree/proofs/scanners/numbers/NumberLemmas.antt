-- Numbers by their digits, one digit more at a time.
use Rattle.std.proofs.Common.{◌≡◌, ℕ, zero, suc, ◌+◌, ◌*◌, ◌^◌, ◌<◌, ◌≤◌, List, [], ◌∷◌, length, get_or, take, arith}
use Rattle.std.specs.Char.{digit_value}
use Rattle.std.specs.Str.Parse.{AllDigits, digits_value}
use Rattle.std.proofs.lemmas.Int.Digits.{digits_value-lt, digits_value_more}
use Rattle.std.proofs.lemmas.List.{length-take-le}
use Rattle.std.proofs.Math.Nat.{pow-le-pow_right}

AllDigits-take : (radix : ℕ) (ds : List ℕ) (i : ℕ) → AllDigits radix ds → AllDigits radix (take i ds)
AllDigits-take radix ds zero a = tt
AllDigits-take radix [] (suc i) a = tt
AllDigits-take radix (d ∷ ds) (suc i) a = (a.0, AllDigits-take radix ds i a.1)

-- a number with one digit more is below the power of the radix that has as many digits as there are
pub below_power : (radix : ℕ) (ds : List ℕ) (i : ℕ) → 1 ≤ radix → AllDigits radix ds → i < length ds
    → digits_value radix (take i ds) * radix + digit_value (get_or ds i 0) < radix ^ length ds
below_power radix ds i one all inside =
    let below : digits_value radix (take (i + 1) ds) < radix ^ length (take (i + 1) ds) =
    digits_value-lt radix (take (i + 1) ds) (AllDigits-take radix ds (i + 1) all) in
    let counted : length (take (i + 1) ds) ≡ i + 1 = length-take-le (i + 1) ds (omega (arith, inside)) in
    let up : radix ^ length (take (i + 1) ds) ≤ radix ^ length ds =
    pow-le-pow_right one (omega (arith, counted, inside)) in
    omega (arith, below, up, digits_value_more radix ds i inside)
