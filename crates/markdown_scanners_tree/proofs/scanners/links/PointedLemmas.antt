-- A destination in angle brackets, read unit by unit.
use Rattle.std.proofs.Common.{◌≡◌, ℕ, ◌+◌, ◌<◌, ◌≤◌, ◌≢◌, Bool, true, false, List, [], ◌∷◌, ◌++◌, length, drop, get_or, refl, ap, ◌∙◌, sym, subst, arith, ◌||◌, ◌==◌}
use Rattle.std.specs.List.{concat, list_all}
use Rattle.std.proofs.lemmas.List.{length-append, drop_all}
use Rattle.markdown_scanners_tree.proofs.PrefixLemmas.{both_true}
use Rattle.std.proofs.lemmas.Bool.{false≢true, and_from}
use Rattle.std.proofs.lemmas.Bool.Decides.{nat_tests}
use Rattle.markdown_scanners_tree.specs.Ascii.{less_than_sign, greater_than_sign}
use Rattle.markdown_scanners_tree.specs.Bytes.{is_line_ending}
use Rattle.markdown_scanners_tree.specs.scanners.Escapes.{units, starts_escape}
use Rattle.markdown_scanners_tree.specs.scanners.links.LinkDestination.{stands_pointed, IsPointedFrom}
use Rattle.markdown_scanners_tree.proofs.scanners.escapes.UnitLemmas.{units_single_at, units_escape_at, plain_byte}
use Rattle.markdown_scanners_tree.proofs.scanners.links.BareLemmas.{head_of}

pointed_forth : (n : ℕ) (t t' u : List ℕ) → units t ≡ u ∷ units t' → stands_pointed u ≡ true → IsPointedFrom t' n
    → IsPointedFrom t (length u + n)
pointed_forth n t t' u first stands is = record {
  inner = u ∷ is.inner;
  more = is.more;
  splits = first ∙ ap (λ us. u ∷ us) is.splits;
  each_stands = and_from (stands_pointed u) (list_all stands_pointed is.inner) stands is.each_stands;
  n_is_length = omega (arith, is.n_is_length, length-append u (concat is.inner));
}

pointed_back : (n : ℕ) (t t' u : List ℕ) → units t ≡ u ∷ units t' → u ≢ greater_than_sign ∷ [] → IsPointedFrom t n
    → (m : ℕ) × (n ≡ length u + m) × IsPointedFrom t' m
pointed_back n t t' u first other is = go is.inner is.splits is.each_stands is.n_is_length where
  go : (inner : List (List ℕ)) → units t ≡ inner ++ (greater_than_sign ∷ []) ∷ is.more
      → list_all stands_pointed inner ≡ true → n ≡ length (concat inner)
      → (m : ℕ) × (n ≡ length u + m) × IsPointedFrom t' m
  go [] splits made long = absurd (other (ap head_of (sym first ∙ splits)))
  go (v ∷ inner) splits made long =
      let both : u ∷ units t' ≡ v ∷ (inner ++ (greater_than_sign ∷ []) ∷ is.more) = sym first ∙ splits in (
        length (concat inner),
        omega (arith, long, length-append v (concat inner), ap length (ap head_of both)),
        record { inner = inner; more = is.more; splits = ap (drop 1) both; each_stands = (both_true (stands_pointed v) (list_all stands_pointed inner) made).1; n_is_length = refl },
      )

-- After i bytes: the whole text's destinations are those of the rest.
pub record IsPointedSoFar (i : ℕ) (bytes : List ℕ) : Type 0 where
  pub within : i ≤ length bytes
  pub forth : (n : ℕ) → IsPointedFrom (drop i bytes) n → IsPointedFrom bytes (i + n)
  pub back : (n : ℕ) → IsPointedFrom bytes n → (m : ℕ) × (n ≡ i + m) × IsPointedFrom (drop i bytes) m

pointed_more : (i j : ℕ) (bytes u : List ℕ) → IsPointedSoFar i bytes → units (drop i bytes) ≡ u ∷ units (drop j bytes)
    → j ≡ i + length u → j ≤ length bytes
    → stands_pointed u ≡ true → u ≢ greater_than_sign ∷ [] → IsPointedSoFar j bytes
pointed_more i j bytes u is first long in' stands other = record {
  within = in';
  forth = λ n there. subst (IsPointedFrom bytes) (omega (arith, long))
      (is.forth (length u + n) (pointed_forth n (drop i bytes) (drop j bytes) u first stands there));
  back = λ n there.
      let old = is.back n there in
      let new = pointed_back old.0 (drop i bytes) (drop j bytes) u first other old.2 in
      (new.0, omega (arith, old.1, new.1, long), new.2);
}

-- two bytes, then one
pub pointed_escape : (i : ℕ) (bytes : List ℕ) → IsPointedSoFar i bytes → i + 2 ≤ length bytes
    → starts_escape (drop i bytes) ≡ true → IsPointedSoFar (i + 2) bytes
pointed_escape i bytes is in' escape =
    pointed_more i (i + 2) bytes (get_or bytes i 0 ∷ get_or bytes (i + 1) 0 ∷ []) is
    (units_escape_at bytes i in' escape) refl in' refl (λ e. absurd (omega (arith, ap length e)))

-- the bytes that can't stand there
abbrev refuses : ℕ → Bool
refuses b = is_line_ending b || b == less_than_sign

stands : (b : ℕ) → refuses b ≡ false → b ≢ greater_than_sign → stands_pointed (b ∷ []) ≡ true
stands b fine other = grind (arith, nat_tests)

stands_not : (b : ℕ) → refuses b ≡ true → stands_pointed (b ∷ []) ≡ false
stands_not b refused = grind (arith, nat_tests)

pub pointed_single : (i : ℕ) (bytes : List ℕ) → IsPointedSoFar i bytes → i < length bytes
    → starts_escape (drop i bytes) ≡ false → refuses (get_or bytes i 0) ≡ false → get_or bytes i 0 ≢ greater_than_sign
    → IsPointedSoFar (i + 1) bytes
pointed_single i bytes is in' plain fine other =
    pointed_more i (i + 1) bytes (get_or bytes i 0 ∷ []) is (units_single_at bytes i in' plain) refl
    (omega (arith, in')) (stands (get_or bytes i 0) fine other) (λ e. other (ap (λ u. get_or u 0 0) e))

-- a refused byte: no destination
pub pointed_refused : (i : ℕ) (bytes : List ℕ) → IsPointedSoFar i bytes → i < length bytes
    → starts_escape (drop i bytes) ≡ false → refuses (get_or bytes i 0) ≡ true → get_or bytes i 0 ≢ greater_than_sign
    → (n : ℕ) → IsPointedFrom bytes n → ⊥
pointed_refused i bytes is in' plain refused other n there =
    let rest = (is.back n there).2 in
    let first = units_single_at bytes i in' plain in
    go rest.inner rest.more (sym first ∙ rest.splits) rest.each_stands
  where
    go : (inner more : List (List ℕ))
        → (get_or bytes i 0 ∷ []) ∷ units (drop (i + 1) bytes) ≡ inner ++ (greater_than_sign ∷ []) ∷ more
        → list_all stands_pointed inner ≡ true → ⊥
    go [] more splits made = other (ap (λ us. get_or (head_of us) 0 0) splits)
    go (v ∷ inner) more splits made =
        false≢true (sym (stands_not (get_or bytes i 0) refused)
        ∙ (ap stands_pointed (ap head_of splits)
        ∙ (both_true (stands_pointed v) (list_all stands_pointed inner) made).0))

-- the end of the text: no destination
pub pointed_open : (i : ℕ) (bytes : List ℕ) → IsPointedSoFar i bytes → length bytes ≤ i → (n : ℕ)
    → IsPointedFrom bytes n → ⊥
pointed_open i bytes is past n there =
    let rest = (is.back n there).2 in
    let none : [] ≡ rest.inner ++ (greater_than_sign ∷ []) ∷ rest.more = sym (ap units (drop_all i bytes past))
    ∙ rest.splits in
    absurd (omega (arith, ap length none, length-append rest.inner ((greater_than_sign ∷ []) ∷ rest.more)))

-- the first `>`
pub pointed_here : (i : ℕ) (bytes : List ℕ) → IsPointedSoFar i bytes → i < length bytes
    → get_or bytes i 0 ≡ greater_than_sign → IsPointedFrom bytes i
pointed_here i bytes is in' close =
    let plain : starts_escape (drop i bytes) ≡ false =
    plain_byte bytes i in' (λ e. absurd (omega (arith, sym e ∙ close))) in
    subst (IsPointedFrom bytes) (omega arith) (is.forth 0 (record {
      inner = [];
      more = units (drop (i + 1) bytes);
      splits = units_single_at bytes i in' plain ∙ ap (λ b. (b ∷ []) ∷ units (drop (i + 1) bytes)) close;
      each_stands = refl;
      n_is_length = refl;
    }))
