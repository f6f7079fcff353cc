-- A test that the tables lead from each name to its number.
use Rattle.std.proofs.Common.{◌≡◌, ℕ, zero, suc, ◌+◌, ◌<◌, Bool, true, ◌&&◌, ◌==◌, nat_lt, List, [], ◌∷◌, length, get_or, slice_index, arith, ltb-true, eqb-true, le_of_suc-le-suc, not-suc-le-zero}
use Rattle.std.proofs.lemmas.Bool.{and_parts}
use Rattle.html_entities.specs.Places.{row_of, LeadToRows}

-- each number is below n
unfoldable pub below_ok : ℕ → List ℕ → Bool
below_ok n [] = true
below_ok n (x ∷ xs) = nat_lt x n && below_ok n xs

below_ok-at : (n : ℕ) (xs : List ℕ) (i : ℕ) → 0 < n → below_ok n xs ≡ true → slice_index xs i < n
unfolding below_ok
below_ok-at n [] i some ok = some
below_ok-at n (x ∷ xs) zero some ok = ltb-true x n (and_parts (nat_lt x n) (below_ok n xs) ok).0
below_ok-at n (x ∷ xs) (suc i) some ok = below_ok-at n xs i some (and_parts (nat_lt x n) (below_ok n xs) ok).1

-- the names from number k on are led to their numbers
unfoldable pub leads_ok : (List ℕ → ℕ) → ℕ → List (List ℕ) → Bool
leads_ok row k [] = true
leads_ok row k (name ∷ names) = (row name == k) && leads_ok row (suc k) names

leads_ok-at : (row : List ℕ → ℕ) (k : ℕ) (names : List (List ℕ)) (i : ℕ) → leads_ok row k names ≡ true → i < length names → row (get_or names i []) ≡ k + i
unfolding leads_ok
leads_ok-at row k [] i ok less = absurd (not-suc-le-zero less)
leads_ok-at row k (name ∷ names) zero ok less =
    let first = eqb-true (row name) k (and_parts (row name == k) (leads_ok row (suc k) names) ok).0 in omega arith
leads_ok-at row k (name ∷ names) (suc i) ok less =
    let later = leads_ok-at row (suc k) names i (and_parts (row name == k) (leads_ok row (suc k) names) ok).1 (le_of_suc-le-suc less) in omega arith

row_below : (seeds places name : List ℕ) → below_ok 2125 places ≡ true → row_of seeds places name < 2125
unfolding row_of
row_below seeds places name below = below_ok-at 2125 places _ (omega arith) below

pub LeadToRows-from_ok : (seeds places : List ℕ) (names : List (List ℕ)) → length seeds ≡ 1024 → length places ≡ 2125
    → below_ok 2125 places ≡ true → leads_ok (row_of seeds places) 0 names ≡ true → LeadToRows seeds places names
LeadToRows-from_ok seeds places names seed_count place_count below leads =
    record {
      seed_count = seed_count;
      place_count = place_count;
      inside = λ name. row_below seeds places name below;
      leads = λ k less. let at = leads_ok-at (row_of seeds places) 0 names k leads less in omega arith;
    }
