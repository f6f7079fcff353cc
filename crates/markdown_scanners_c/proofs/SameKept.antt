-- Texts under two handlers that give the same answers for the rests of the bytes, but where both leave out all of a rest.
use Rattle.std.proofs.Common.{ℕ, false, true, List, [], ◌∷◌, ◌++◌, ◌+◌, ◌≤◌, ◌≡◌, drop, length, min, inl, inr, refl, sym, ap, ◌∙◌, subst, arith}
use Rattle.std.proofs.lemmas.Bool.{cases_lt}
use Rattle.std.proofs.lemmas.List.{drop-drop, drop_all, length-drop}
use Rattle.markdown_scanners_tree.specs.Kept.{AreSkips, kept_line, kept_from, line_len}

kept_none : (answers : List ℕ → ℕ → Type 0) (offset : ℕ) (skips : List ℕ) → AreSkips answers [] skips → kept_from offset [] skips ≡ []
kept_none answers offset [] are = refl
kept_none answers offset (skip ∷ skips) are = let none : false ≡ true = are.0 in cc

-- nothing is kept after the end
kept_past : (answers : List ℕ → ℕ → Type 0) (offset k : ℕ) (source skips : List ℕ) → length source ≤ k
    → AreSkips answers (drop k source) skips → kept_from offset (drop k source) skips ≡ []
kept_past answers offset k source skips past are =
    let end = drop_all k source past in
    rw end (kept_none answers offset skips (rw end at are))

-- each answer for a rest of the bytes is one of the other, but where both are all of it
abbrev pub AgreeOnRests : List ℕ → (List ℕ → ℕ → Type 0) → (List ℕ → ℕ → Type 0) → Type 0
AgreeOnRests bytes answers others = (p n : ℕ) → answers (drop p bytes) n
    → (m : ℕ) × others (drop p bytes) m × (min m (length (drop p bytes)) ≡ min n (length (drop p bytes)))

module _ (bytes : List ℕ) (answers others : List ℕ → ℕ → Type 0) (agree : AgreeOnRests bytes answers others) where
  -- a text that is kept under the one is kept under the other
  abbrev pub KeptToo : ℕ → List ℕ → List ℕ → Type 0
  KeptToo offset source skips =
      (ms : List ℕ) × AreSkips others source ms × (kept_from offset source ms ≡ kept_from offset source skips)

  pub kept_too : (offset p : ℕ) (skips : List ℕ) → AreSkips answers (drop p bytes) skips → KeptToo offset (drop p bytes) skips
  kept_too offset p [] are = ([], tt, refl)
  kept_too offset p (n ∷ ns) are =
      let source = drop p bytes in
      let line = line_len source in
      let rest = drop line source in
      let there : drop line source ≡ drop (p + line) bytes = drop-drop line p bytes in
      let other = agree (p + line) n (subst (λ r. answers r n) there are.1) in
      let m = other.0 in
      let returned : others rest m = subst (λ r. others r m) (sym there) other.1 in
      let least : min m (length rest) ≡ min n (length rest) =
      subst (λ r. min m (length r) ≡ min n (length r)) (sym there) other.2 in
      let size = length-drop line source in
      elim (cases_lt n (length rest)) [
        | inl inside ↦
            (let same : m ≡ n = omega (arith, least, inside) in
            let next : drop (line + n) source ≡ drop (p + (line + n)) bytes = drop-drop (line + n) p bytes in
            let later = subst (λ s. KeptToo (offset + (line + n)) s ns) (sym next)
            (kept_too (offset + (line + n)) (p + (line + n)) ns (subst (λ s. AreSkips answers s ns) next are.2)) in (
              n ∷ later.0,
              (are.0, subst (others rest) same returned, later.1),
              ap (λ ks. kept_line offset source ++ ks) later.2,
            ))
        | inr past ↦
            (let mine = kept_past answers (offset + (line + n)) (line + n) source ns (omega (arith, past, size)) are.2 in
            let its = kept_past others (offset + (line + m)) (line + m) source [] (omega (arith, past, least, size)) tt in (
              m ∷ [],
              (are.0, returned, tt),
              ap (λ ks. kept_line offset source ++ ks) (its ∙ sym mine),
            ))
      ]
