-- What `parse` reads where no plus stands in front.
use Rattle.std.proofs.Common.{ℕ, ◌<◌, ◌^◌, ◌≡◌, ◌≢◌, Bool, true, cond, ◌&&◌, List, length, Result, Ok, Err, Some, None, sym, get_or, ap, ◌∙◌}
use Rattle.std.specs.Prelude.{nat_lt}
use Rattle.std.proofs.lemmas.Bool.{cond-true, cond-false, false_from_ne_true, and_from, and_parts, lt-ltb, ltb-true}
use Rattle.std.specs.Result.{OkIff, result_ok}
use Rattle.std.specs.Str.{all_ascii_digits}
use Rattle.std.specs.Str.Parse.{digits_value, ParsesUnsigned}
use Rattle.std.proofs.lemmas.Str.Parse.{parse_plain, numerals_by_value, tells_all_ascii_digits, IsNumeralModel}
use Rattle.cmark_scan.specs.words.Words.{number_of}

own : IsNumeralModel (λ ds. all_ascii_digits ds ≡ true) (digits_value 10)
own = numerals_by_value _ tells_all_ascii_digits

-- a result that is `Ok` exactly where three tests pass
by_tests : {E : Type 0} (a : Bool) (n m top v : ℕ) (r : Result ℕ E) → OkIff r ((a ≡ true) × (n < m) × (v < top)) v
    → result_ok r ≡ cond ((nat_lt n m && a) && nat_lt v top) (Some v) None
by_tests a n m top v (Ok x) h =
    ap Some h.1 ∙ sym (cond-true _ _ _ (and_from _ _ (and_from _ _ (lt-ltb n m h.0.1) h.0.0) (lt-ltb v top h.0.2)))
by_tests a n m top v (Err e) h =
    sym (cond-false ((nat_lt n m && a) && nat_lt v top) _ _ (false_from_ne_true _ (λ t.
    let both = and_parts (nat_lt n m && a) (nat_lt v top) t in
    let front = and_parts (nat_lt n m) a both.0 in
    h (front.1, ltb-true n m front.0, ltb-true v top both.1))))

pub number_read : {E : Type 0} (bs : List ℕ) (r : Result ℕ E) → ParsesUnsigned 64 10 bs r → get_or bs 0 0 ≢ 43 → result_ok r ≡ number_of bs
number_read bs r h p = by_tests (all_ascii_digits bs) 0 (length bs) (2 ^ 64) (digits_value 10 bs) r (parse_plain own 64 bs r h p)
