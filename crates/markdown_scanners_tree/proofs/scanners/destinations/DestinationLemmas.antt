-- A bare destination without parentheses and escapes is as long as the bytes that may stand in one.
use Rattle.std.proofs.Common.{◌≡◌, ◌≢◌, ◌+◌, ◌<◌, ◌≤◌, ◌==◌, not, nat_le, nat_lt, ℕ, zero, suc, true, false, cond}
use Rattle.std.proofs.Common.{List, [], ◌∷◌, ◌++◌, take, drop, length, refl, ap, subst, arith, ◌∙◌, inl, inr}
use Rattle.std.specs.List.{list_all, prefix_len}
use Rattle.std.proofs.lemmas.Bool.{and_from, and_parts, eqb-true, leb-true, lt-ltb, ltb-true, ne_eqb, or_cases}
use Rattle.std.proofs.lemmas.List.{length-take-le, take-append-drop}
use Rattle.std.proofs.lemmas.List.Sums.{prefix_len-le-length, sum_by-cons}
use Rattle.markdown_scanners_tree.proofs.PrefixLemmas.{list_all-prefix}
use Rattle.markdown_scanners_tree.specs.scanners.Escapes.{units}
use Rattle.markdown_scanners_tree.specs.scanners.classes.private.InDestination.{is_in_destination}
use Rattle.markdown_scanners_tree.specs.scanners.links.LinkDestination.{IsBalanced, IsBareFrom, closing_count, ends_bare, is_single, opening_count, stands_bare}
use Rattle.markdown_scanners_tree.specs.scanners.links.DestinationEnds.{ends_destination}

-- a byte above space that neither nests nor escapes
record IsPlain (b : ℕ) : Type 0 where
  high : 32 < b
  no_open : b ≢ 40
  no_close : b ≢ 41
  no_escape : b ≢ 92

in_destination : (b : ℕ) → is_in_destination b ≡ true → IsPlain b
in_destination b is =
    let parts = and_parts (nat_lt 32 b) _ is in
    let open_parts = and_parts (not (b == 40)) _ parts.1 in
    let close_parts = and_parts (not (b == 41)) (not (b == 92)) open_parts.1 in record {
      high = ltb-true 32 b parts.0;
      no_open = λ same. (let no : not (b == 40) ≡ false = rw same refl in cc);
      no_close = λ same. (let no : not (b == 41) ≡ false = rw same refl in cc);
      no_escape = λ same. (let no : not (b == 92) ≡ false = rw same refl in cc);
    }

-- a byte that is no backslash is a unit
unit_first : (b : ℕ) (bs : List ℕ) → b ≢ 92 → units (b ∷ bs) ≡ (b ∷ []) ∷ units bs
unit_first b [] other = refl
unit_first b (c ∷ bs) other = rw (ne_eqb b 92 other) refl

-- one more unit that is no parenthesis
one_more : (most b : ℕ) (us : List (List ℕ)) → IsPlain b → IsBalanced most 0 us → IsBalanced most 0 ((b ∷ []) ∷ us)
one_more most b us plain is = record {
  never_below = below;
  never_above = above;
  closed = omega (arith, is.closed, opening us, closing us);
} where
  opening : (vs : List (List ℕ)) → opening_count ((b ∷ []) ∷ vs) ≡ opening_count vs
  opening vs =
      let first : ◌≡◌ {A = ℕ} (cond (is_single 40 (b ∷ [])) 1 0) 0 = rw (ne_eqb b 40 plain.no_open) refl in
      omega (arith, first, sum_by-cons (λ x. cond (is_single 40 x) 1 0) (b ∷ []) vs)

  closing : (vs : List (List ℕ)) → closing_count ((b ∷ []) ∷ vs) ≡ closing_count vs
  closing vs =
      let first : ◌≡◌ {A = ℕ} (cond (is_single 41 (b ∷ [])) 1 0) 0 = rw (ne_eqb b 41 plain.no_close) refl in
      omega (arith, first, sum_by-cons (λ x. cond (is_single 41 x) 1 0) (b ∷ []) vs)

  below : (k : ℕ) → k ≤ length ((b ∷ []) ∷ us) → closing_count (take k ((b ∷ []) ∷ us)) ≤ 0 + opening_count (take k ((b ∷ []) ∷ us))
  below zero l = omega arith
  below (suc k) l = omega (arith, is.never_below k (omega (arith, l)), opening (take k us), closing (take k us))

  above : (k : ℕ) → k ≤ length ((b ∷ []) ∷ us) → 0 + opening_count (take k ((b ∷ []) ∷ us)) ≤ most + closing_count (take k ((b ∷ []) ∷ us))
  above zero l = omega arith
  above (suc k) l = omega (arith, is.never_above k (omega (arith, l)), opening (take k us), closing (take k us))

ends_here : (rest : List ℕ) → ends_destination rest ≡ true → ends_bare (units rest) ≡ true
ends_here [] ends = refl
ends_here (b ∷ bs) ends =
    let other : b ≢ 92 = λ same. elim (or_cases (nat_le b 32) (b == 41) ends) [
      | inl low ↦ omega (arith, same, leb-true b 32 low)
      | inr close ↦ omega (arith, same, eqb-true b 41 close)
    ] in
    ap ends_bare (unit_first b bs other) ∙ ends

nothing : (most : ℕ) → IsBalanced most 0 []
nothing most = record { never_below = never; never_above = above; closed = refl } where
  never : (k : ℕ) → k ≤ 0 → closing_count (take k []) ≤ 0 + opening_count (take k [])
  never zero l = omega arith
  never (suc k) l = omega arith

  above : (k : ℕ) → k ≤ 0 → 0 + opening_count (take k []) ≤ most + closing_count (take k [])
  above zero l = omega arith
  above (suc k) l = omega arith

-- bytes that may stand in one, before its end
bare : (most : ℕ) (plain rest : List ℕ) → list_all is_in_destination plain ≡ true → ends_destination rest ≡ true
    → IsBareFrom most 0 (plain ++ rest) (length plain)
bare most [] rest all ends = record {
  inner = [];
  more = units rest;
  splits = refl;
  each_stands = refl;
  balanced = nothing most;
  ends = ends_here rest ends;
  n_is_length = refl;
}
bare most (b ∷ bs) rest all ends =
    let parts = and_parts (is_in_destination b) (list_all is_in_destination bs) all in
    let plain = in_destination b parts.0 in
    let later = bare most bs rest parts.1 ends in record {
      inner = (b ∷ []) ∷ later.inner;
      more = later.more;
      splits = unit_first b (bs ++ rest) plain.no_escape ∙ ap (λ us. (b ∷ []) ∷ us) later.splits;
      each_stands = and_from (stands_bare (b ∷ [])) (list_all stands_bare later.inner) (lt-ltb 32 b plain.high) later.each_stands;
      balanced = one_more most b later.inner plain later.balanced;
      ends = later.ends;
      n_is_length = ap suc later.n_is_length;
    }

-- so many as the bytes at the front that may stand in one, if it ends there
pub bare_here : (most : ℕ) (bytes : List ℕ) → ends_destination (drop (prefix_len is_in_destination bytes) bytes) ≡ true
    → IsBareFrom most 0 bytes (prefix_len is_in_destination bytes)
bare_here most bytes ends =
    let n = prefix_len is_in_destination bytes in
    subst (IsBareFrom most 0 bytes) (length-take-le n bytes (prefix_len-le-length is_in_destination bytes))
    (subst (λ t. IsBareFrom most 0 t (length (take n bytes))) (take-append-drop n bytes)
    (bare most (take n bytes) (drop n bytes) (list_all-prefix is_in_destination bytes) ends))
