-- A text in which no byte begins an escape, a character reference or a CR means itself.
use Rattle.std.proofs.Common.{◌≡◌, not, ℕ, Bool, true, false, List, [], ◌∷◌, ◌++◌, get_or, length, one-add, arith, suc, refl, sym, ap, ◌∙◌, inl, inr, true≢false}
use Rattle.std.specs.List.{list_all, prefix_len}
use Rattle.std.specs.Prelude.{nat_eq}
use Rattle.std.proofs.lemmas.Bool.{and_parts, cases_Bool, eq-eqb, eqb-true, ne_eqb}
use Rattle.html_entities.specs.Entities.{html_entity}
use Rattle.markdown_scanners_tree.specs.scanners.unescaping.Unescaping.{ArePieces, Fits, IsAmpersandReference, IsBackslashEscape, IsDroppedReturn}
use Rattle.markdown_scanners_tree.specs.scanners.unescaping.Unescaping.{IsFirstFit, IsTablePipe, Piece, joined_meanings}
use Rattle.markdown_scanners_tree.specs.scanners.unescaping.private.FirstPiece.{begins_change}
use Rattle.markdown_events.specs.Meanings.{IsMeaning}

-- a byte that means itself
abbrev itself : ℕ → Piece
itself b = record { source = b ∷ []; meaning = b ∷ [] }

-- nothing else fits at such a byte
begins_with : (b : ℕ) (bs source rest : List ℕ) (c : ℕ) (tail : List ℕ) → b ∷ bs ≡ source ++ rest → source ≡ c ∷ tail → b ≡ c
begins_with b bs source rest c tail splits is = ap (λ t. get_or t 0 0) (splits ∙ ap (λ s. s ++ rest) is)

fits_itself : (b : ℕ) (bs : List ℕ) → begins_change b ≡ false → IsFirstFit false html_entity (b ∷ bs) (itself b)
fits_itself b bs plain =
    inr (no_pipe, inr (no_escape, inr (no_reference, inr (no_return, (b, refl, refl))))) where
      changed : (c : ℕ) → b ≡ c → begins_change c ≡ true → ⊥
      changed c is change = true≢false (sym change ∙ ap begins_change (sym is) ∙ plain)

      no_pipe : ¬ Fits (IsTablePipe false) (b ∷ bs)
      no_pipe fits = true≢false (sym fits.4.0)

      no_escape : ¬ Fits IsBackslashEscape (b ∷ bs)
      no_escape fits = changed 92 (begins_with b bs fits.0 fits.1 92 (fits.4.0 ∷ []) fits.3 fits.4.2) refl

      no_reference : ¬ Fits (IsAmpersandReference html_entity) (b ∷ bs)
      no_reference fits = changed 38 (begins_with b bs fits.0 fits.1 38 fits.4.0 fits.3 fits.4.1) refl

      no_return : ¬ Fits IsDroppedReturn (b ∷ bs)
      no_return fits = changed 13 (begins_with b bs fits.0 fits.1 13 [] fits.3 fits.4.0) refl

-- its bytes as pieces
abbrev parts_of : List ℕ → List Piece
parts_of [] = []
parts_of (b ∷ bs) = itself b ∷ parts_of bs

not_true : (b : Bool) → not b ≡ true → b ≡ false
not_true true is = cc
not_true false is = refl

are_parts : (text : List ℕ) → list_all (λ b. not (begins_change b)) text ≡ true → ArePieces false html_entity text (parts_of text)
are_parts [] all = refl
are_parts (b ∷ bs) all =
    let both = and_parts (not (begins_change b)) (list_all (λ c. not (begins_change c)) bs) all in
    (bs, refl, fits_itself b bs (not_true (begins_change b) both.0), are_parts bs both.1)

joined : (text : List ℕ) → text ≡ joined_meanings (parts_of text)
joined [] = refl
joined (b ∷ bs) = ap (λ t. b ∷ t) (joined bs)

pub means_itself : (text : List ℕ) → list_all (λ b. not (begins_change b)) text ≡ true → IsMeaning text text
means_itself text all = record { parts = parts_of text; are_parts = are_parts text all; meaning_is = joined text }

suc_eq : (a b : ℕ) → nat_eq (suc a) (suc b) ≡ nat_eq a b
suc_eq a b = elim (cases_Bool (nat_eq a b)) [
  | inl same ↦ eq-eqb (suc a) (suc b) (ap suc (eqb-true a b same)) ∙ sym same
  | inr other ↦ ne_eqb (suc a) (suc b) (λ e. true≢false (sym (eq-eqb a b (omega (arith, e))) ∙ other)) ∙ sym other
]

-- all bytes pass a test where those at the front that pass it are all
pub whole_prefix : (p : ℕ → Bool) (xs : List ℕ) → nat_eq (prefix_len p xs) (length xs) ≡ list_all p xs
whole_prefix p [] = refl
whole_prefix p (x ∷ xs) = elim (cases_Bool (p x)) [
  | inl passes ↦ rw (passes, one-add) (suc_eq (prefix_len p xs) (length xs) ∙ whole_prefix p xs)
  | inr fails ↦ rw fails (ne_eqb 0 (suc (length xs)) (λ e. omega (arith, e)))
]
