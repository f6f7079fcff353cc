-- Digits at the front of a text, and the numbers that they stand for.
use Rattle.std.proofs.Common.{◌≡◌, ℕ, zero, suc, ◌+◌, ◌*◌, ◌^◌, ◌<◌, ◌≤◌, List, [], ◌∷◌, ◌++◌}
use Rattle.std.proofs.Common.{length, get_or, take, refl, ap, ◌∙◌, sym, arith, add-one, add_comm, drop, inl, inr, subst}
use Rattle.std.specs.List.{prefix_len}
use Rattle.std.specs.Char.{is_digit, digit_value}
use Rattle.std.specs.Str.Parse.{AllDigits, digits_value}
use Rattle.std.proofs.lemmas.List.{length-take-le, length-append, get_or_at}
use Rattle.std.proofs.lemmas.Bool.{cases_lt, lt-ltb, le-ltb}
use Rattle.std.proofs.lemmas.Int.Digits.{digits_value-lt, digits_value_more}
use Rattle.std.proofs.Math.Nat.{pow-le-pow_left, pow-le-pow_right}
use Rattle.markdown_scanners_tree.specs.Ascii.{semicolon}
use Rattle.markdown_scanners_tree.proofs.PrefixLemmas.{split_at}
use Rattle.markdown_scanners_tree.specs.scanners.entities.private.Digits.{StartsWithNumber}

-- the longest prefix of digits has digits alone
pub prefix_digits : (radix : ℕ) (bs : List ℕ) → AllDigits radix (take (prefix_len (λ b. is_digit b radix) bs) bs)
prefix_digits radix [] = tt
prefix_digits radix (b ∷ bs) =
    elim (cases_lt (digit_value b) radix) [
      | inl below ↦
          rw (
            lt-ltb (digit_value b) radix below,
            add_comm 1 (prefix_len (λ b. is_digit b radix) bs),
            add-one (prefix_len (λ b. is_digit b radix) bs),
          ) (below, prefix_digits radix bs)
      | inr above ↦ rw (le-ltb (digit_value b) radix above) tt
    ]

-- the digits that stand before the end, or before a byte that is none, are the longest prefix
pub digits_counted : (radix : ℕ) (bytes : List ℕ) (n : ℕ) → AllDigits radix (take n bytes) → n ≤ length bytes
    → (n < length bytes → radix ≤ digit_value (get_or bytes n 0)) → n ≡ prefix_len (λ b. is_digit b radix) bytes
digits_counted radix [] n made within stop = omega (arith, within)
digits_counted radix (b ∷ bytes) zero made within stop =
    rw (le-ltb (digit_value b) radix (stop (omega arith))) refl
digits_counted radix (b ∷ bytes) (suc n) made within stop =
    let rest : n ≡ prefix_len (λ b. is_digit b radix) bytes =
    digits_counted radix bytes n made.1 (omega (arith, within)) (λ inside. stop (omega (arith, inside))) in
    rw (lt-ltb (digit_value b) radix made.0) (omega (arith, rest))

-- one digit more
pub digits_more : (radix : ℕ) (bytes : List ℕ) (n : ℕ) → AllDigits radix (take n bytes) → n < length bytes
    → digit_value (get_or bytes n 0) < radix → AllDigits radix (take (suc n) bytes)
digits_more radix [] n made inside below = absurd (omega (arith, inside))
digits_more radix (b ∷ bytes) zero made inside below = (below, tt)
digits_more radix (b ∷ bytes) (suc n) made inside below =
    (made.0, digits_more radix bytes n made.1 (omega (arith, inside)) below)

-- a number of at most seven digits fits
pub number_fits : (radix : ℕ) (bytes : List ℕ) (n : ℕ) → 1 ≤ radix → radix ≤ 16 → n < length bytes
    → length bytes ≤ 7 → AllDigits radix (take n bytes) → digit_value (get_or bytes n 0) < radix
    → digits_value radix (take n bytes) * radix + digit_value (get_or bytes n 0) < 2 ^ 28
number_fits radix bytes n one low inside few made below =
    let next : n + 1 ≡ suc n = add-one n in
    let digits : AllDigits radix (take (n + 1) bytes) =
    subst (λ k. AllDigits radix (take k bytes)) (sym next) (digits_more radix bytes n made inside below) in
    let small : digits_value radix (take (n + 1) bytes) < radix ^ length (take (n + 1) bytes) =
    digits_value-lt radix (take (n + 1) bytes) digits in
    let counted : length (take (n + 1) bytes) ≡ n + 1 = length-take-le (n + 1) bytes (omega (arith, inside)) in
    let power : radix ^ length (take (n + 1) bytes) ≤ radix ^ 7 =
    pow-le-pow_right one (omega (arith, counted, inside, few)) in
    let wide : radix ^ 7 ≤ 16 ^ 7 = pow-le-pow_left low 7 in
    omega (arith, small, power, wide, digits_value_more radix bytes n inside)

-- a semicolon ends the digits at the front
digits_end : (radix : ℕ) (ds rest : List ℕ) → radix ≤ 36 → AllDigits radix ds
    → prefix_len (λ b. is_digit b radix) (ds ++ semicolon ∷ rest) ≡ length ds
digits_end radix [] rest low a = rw (le-ltb 36 radix low) refl
digits_end radix (d ∷ ds) rest low a =
    rw (lt-ltb (digit_value d) radix a.0, digits_end radix ds rest low a.1) (omega arith)

pub number_found : (radix limit : ℕ) (bytes : List ℕ) (n number : ℕ) → AllDigits radix (take n bytes)
    → 1 ≤ n → n ≤ limit → n < length bytes
    → get_or bytes n 0 ≡ semicolon → number ≡ digits_value radix (take n bytes)
    → StartsWithNumber radix limit bytes n number
number_found radix limit bytes n number made one few inside ends means =
    let long : length (take n bytes) ≡ n = length-take-le n bytes (omega (arith, inside)) in
    record {
      digits = take n bytes;
      rest = drop (suc n) bytes;
      splits = split_at bytes n semicolon inside ends;
      digits_only = made;
      at_least_one = omega (arith, long, one);
      at_most_limit = omega (arith, long, few);
      n_is_length = sym long;
      means = means;
    }

-- what a number at the front says of the n digits there, and of the byte after them
pub record IsEnded (limit : ℕ) (bytes : List ℕ) (n : ℕ) : Type 0 where
  pub at_least_one : 1 ≤ n
  pub at_most_limit : n ≤ limit
  pub inside : n < length bytes
  pub ends : get_or bytes n 0 ≡ semicolon

pub number_ended : (radix limit : ℕ) (bytes : List ℕ) (n k number : ℕ) → n ≡ prefix_len (λ b. is_digit b radix) bytes
    → radix ≤ 36
    → StartsWithNumber radix limit bytes k number → IsEnded limit bytes n
number_ended radix limit bytes n k number same low is =
    let count : n ≡ length is.digits = same
    ∙ (ap (prefix_len (λ b. is_digit b radix)) is.splits ∙ digits_end radix is.digits is.rest low is.digits_only) in
    record {
      at_least_one = omega (arith, count, is.at_least_one);
      at_most_limit = omega (arith, count, is.at_most_limit);
      inside = omega (arith, count, ap length is.splits, length-append is.digits (semicolon ∷ is.rest));
      ends = ap (λ k. get_or bytes k 0) count
          ∙ (ap (λ bs. get_or bs (length is.digits) 0) is.splits
          ∙ get_or_at is.digits semicolon is.rest 0 (length is.digits) refl);
    }
