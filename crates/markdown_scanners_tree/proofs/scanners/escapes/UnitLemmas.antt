-- The first unit of a text.
use Rattle.std.proofs.Common.{◌≡◌, ℕ, true, false, List, [], ◌∷◌, refl, ap, ◌∙◌, sym, ◌+◌, ◌<◌, ◌≤◌, ◌≢◌, length, drop, get_or, arith, add-one, inl, inr}
use Rattle.std.specs.List.{concat}
use Rattle.std.proofs.Math.Seq.{drop-cons}
use Rattle.std.proofs.lemmas.List.{drop_all}
use Rattle.std.proofs.lemmas.Bool.{cases_Bool, ne_eqb}
use Rattle.markdown_scanners_tree.specs.Ascii.{backslash}
use Rattle.markdown_scanners_tree.specs.scanners.Escapes.{units, starts_escape}

units_single : (b : ℕ) (bs : List ℕ) → starts_escape (b ∷ bs) ≡ false → units (b ∷ bs) ≡ (b ∷ []) ∷ units bs
units_single b [] no' = refl
units_single b (c ∷ bs) no' = rw no' refl

units_escape : (b c : ℕ) (bs : List ℕ) → starts_escape (b ∷ c ∷ bs) ≡ true
    → units (b ∷ c ∷ bs) ≡ (b ∷ c ∷ []) ∷ units bs
units_escape b c bs yes' = rw yes' refl

-- joined, the units are the text
pub units_joined : (bs : List ℕ) → concat (units bs) ≡ bs
units_joined [] = refl
units_joined (b ∷ []) = refl
units_joined (b ∷ c ∷ bs) = elim (cases_Bool (starts_escape (b ∷ c ∷ bs))) [
  | inl escape ↦ ap concat (units_escape b c bs escape) ∙ ap (λ rest. b ∷ c ∷ rest) (units_joined bs)
  | inr plain ↦ ap concat (units_single b (c ∷ bs) plain) ∙ ap (λ rest. b ∷ rest) (units_joined (c ∷ bs))
]

-- the same at an offset
pub drop_at_offset : (bs : List ℕ) (i : ℕ) → i < length bs → drop i bs ≡ get_or bs i 0 ∷ drop (i + 1) bs
drop_at_offset bs i l = drop-cons bs i 0 l ∙ ap (λ k. get_or bs i 0 ∷ drop k bs) (sym (add-one i))

pub units_single_at : (bs : List ℕ) (i : ℕ) → i < length bs → starts_escape (drop i bs) ≡ false
    → units (drop i bs) ≡ (get_or bs i 0 ∷ []) ∷ units (drop (i + 1) bs)
units_single_at bs i l plain =
    let e = drop_at_offset bs i l in
    ap units e ∙ units_single (get_or bs i 0) (drop (i + 1) bs) (ap starts_escape (sym e) ∙ plain)

pub units_escape_at : (bs : List ℕ) (i : ℕ) → i + 2 ≤ length bs → starts_escape (drop i bs) ≡ true
    → units (drop i bs) ≡ (get_or bs i 0 ∷ get_or bs (i + 1) 0 ∷ []) ∷ units (drop (i + 2) bs)
units_escape_at bs i l escape =
    let two : i + 1 + 1 ≡ i + 2 = omega arith in
    let e : drop i bs ≡ get_or bs i 0 ∷ get_or bs (i + 1) 0 ∷ drop (i + 2) bs =
    drop_at_offset bs i (omega (arith, l))
    ∙ (ap (λ r. get_or bs i 0 ∷ r) (drop_at_offset bs (i + 1) (omega (arith, l)))
    ∙ ap (λ k. get_or bs i 0 ∷ get_or bs (i + 1) 0 ∷ drop k bs) two) in
    ap units e ∙ units_escape (get_or bs i 0) (get_or bs (i + 1) 0) (drop (i + 2) bs)
    (ap starts_escape (sym e) ∙ escape)

pub plain_byte : (bs : List ℕ) (i : ℕ) → i < length bs → get_or bs i 0 ≢ backslash → starts_escape (drop i bs) ≡ false
plain_byte bs i l other = ap starts_escape (drop_at_offset bs i l) ∙ go (get_or bs i 0) (drop (i + 1) bs) other where
  go : (b : ℕ) (rest : List ℕ) → b ≢ backslash → starts_escape (b ∷ rest) ≡ false
  go b [] other = refl
  go b (c ∷ rest) other = rw (ne_eqb b backslash other) refl

pub escape_at_end : (bs : List ℕ) (i : ℕ) → i + 1 ≡ length bs → starts_escape (drop i bs) ≡ false
escape_at_end bs i l =
    ap starts_escape (drop_at_offset bs i (omega (arith, l))
    ∙ ap (λ r. get_or bs i 0 ∷ r) (drop_all (i + 1) bs (omega (arith, l))))
