-- The offset of a line after spaces and plain bytes.
use Rattle.std.proofs.Common.{ℕ, suc, zero, Bool, true, false, not, ◌+◌, ◌-◌, ◌%◌, ◌≡◌, ◌≤◌, ◌⊎◌, List, ◌∷◌, ◌++◌, length}
use Rattle.std.proofs.Common.{take, drop, replicate, refl, sym, ap, ◌∙◌, subst, arith, inl, inr}
use Rattle.std.specs.Prelude.{nat_lt}
use Rattle.std.specs.List.{list_all}
use Rattle.std.proofs.lemmas.Bool.{lt-ltb}
use Rattle.std.proofs.lemmas.List.{drop-drop, length-replicate}
use Rattle.std.proofs.Math.Seq.{take-append_seam, drop-append_seam}
use Rattle.markdown_scanners_tree.specs.Bytes.{begins_with, is_space_or_tab}
use Rattle.markdown_scanners_tree.specs.Columns.{column_past, bytes_below, written_out}
use Rattle.markdown_scanners_tree.specs.line.ItemRules.{start_of}
use Rattle.markdown_scanners_tree.specs.line.State.{LineState, unscanned, rest_of, leading_spaces, bytes_further, bytes_for}
use Rattle.markdown_scanners_tree.specs.line.State.{columns_further, space_within, after_space}
use Rattle.markdown_scanners_tree.proofs.line.ColumnLemmas.{none_below, below-cons}
use Rattle.markdown_scanners_tree.proofs.line.SpaceLemmas.{none_at_front}
use Rattle.markdown_scanners_tree.proofs.line.WrittenLemmas.{head-cons}
use Rattle.markdown_blocks.specs.blank_lines.BlankLines.{is_blank}
use Rattle.markdown_blocks.specs.laws.Held.{has_no_tab, KeepsTabs}
use Rattle.markdown_blocks.proofs.laws.AlikeLemmas.{Alike}

-- n spaces
abbrev pub spaces : ℕ → List ℕ
spaces n = replicate n 32

written_spaces : (n c : ℕ) (bs : List ℕ) → written_out c (spaces n ++ bs) ≡ spaces n ++ written_out (c + n) bs
written_spaces zero c bs = let e : c + 0 ≡ c = omega arith in rw e refl
written_spaces (suc n) c bs =
    let e : c + 1 + n ≡ c + suc n = omega arith in
    ap (λ w. 32 ∷ w) (rw e at (written_spaces n (c + 1) bs))

pub leading_more : (n : ℕ) (bs : List ℕ) → leading_spaces (spaces n ++ bs) ≡ n + leading_spaces bs
leading_more zero bs = omega arith
leading_more (suc n) bs = omega (arith, leading_more n bs)

below_spaces : (n c : ℕ) (bs : List ℕ) → bytes_below c (spaces n ++ bs) (c + n) ≡ n
below_spaces zero c bs = none_below bs c (c + 0) (omega arith)
below_spaces (suc n) c bs =
    let one : nat_lt c (c + suc n) ≡ true = lt-ltb c (c + suc n) (omega arith) in
    let e : c + 1 + n ≡ c + suc n = omega arith in
    let more : bytes_below (c + 1) (spaces n ++ bs) (c + suc n) ≡ n = rw e at (below_spaces n (c + 1) bs) in
    below-cons c 32 (spaces n ++ bs) (c + suc n) refl ∙ rw one (omega (arith, more))

past_spaces : (n c : ℕ) → column_past c (spaces n) ≡ c + n
past_spaces zero c = omega arith
past_spaces (suc n) c = omega (arith, past_spaces n (c + 1))

take_spaces : (n : ℕ) (bs : List ℕ) → take n (spaces n ++ bs) ≡ spaces n
take_spaces n bs = ap (λ k. take k (spaces n ++ bs)) (sym (length-replicate {A = ℕ} n 32)) ∙ take-append_seam (spaces n) bs

drop_spaces : (n : ℕ) (bs : List ℕ) → drop n (spaces n ++ bs) ≡ bs
drop_spaces n bs = ap (λ k. drop k (spaces n ++ bs)) (sym (length-replicate {A = ℕ} n 32)) ∙ drop-append_seam (spaces n) bs

-- the offset where these bytes are left, at this column
pub record IsAt (s : LineState) (bs : List ℕ) (column : ℕ) : Type 0 where
  pub text : unscanned s ≡ bs
  pub pending : s.pending ≡ 0
  pub phase : s.phase ≡ column % 4

pub at_start : (line : List ℕ) → IsAt (start_of line) line 0
at_start line = record { text = refl; pending = refl; phase = refl }

pub at_byte : (s : LineState) (b : ℕ) (bs : List ℕ) (c : ℕ) → IsAt s (b ∷ bs) c → IsAt (bytes_further 1 s) bs (c + 1)
at_byte s b bs c at = record {
  text = sym (drop-drop 1 s.offset s.bytes) ∙ ap (drop 1) at.text;
  pending = at.pending;
  phase = omega (arith, at.phase);
}

-- up to n columns of space, of which m stand there
module _ (s : LineState) (m : ℕ) (bs : List ℕ) (c : ℕ) (at : IsAt s (spaces m ++ bs) c) where
  pub left_there : rest_of s ≡ spaces m ++ written_out (s.phase + m) bs
  left_there = ap (λ p. replicate p 32 ++ written_out s.phase (unscanned s)) at.pending ∙ ap (written_out s.phase) at.text ∙ written_spaces m s.phase bs

  pub found_there : (n : ℕ) → m ≤ n → (m ≡ n) ⊎ (begins_with is_space_or_tab bs ≡ false) → space_within n s ≡ m
  found_there n few (inl all) =
      let e : leading_spaces (rest_of s) ≡ m + leading_spaces (written_out (s.phase + m) bs) = ap leading_spaces left_there ∙ leading_more m _ in
      omega (arith, e, all)
  found_there n few (inr other) =
      let e : leading_spaces (rest_of s) ≡ m + leading_spaces (written_out (s.phase + m) bs) = ap leading_spaces left_there ∙ leading_more m _ in
      omega (arith, e, none_at_front bs (s.phase + m) other)

  passed_there : bytes_for m s ≡ m
  passed_there =
      let column : s.phase + m - s.pending ≡ s.phase + m = omega (arith, at.pending) in
      ap (bytes_below s.phase (unscanned s)) column ∙ ap (λ w. bytes_below s.phase w (s.phase + m)) at.text ∙ below_spaces m s.phase bs

  column_there : column_past s.phase (take (bytes_for m s) (unscanned s)) ≡ s.phase + m
  column_there = ap (λ k. column_past s.phase (take k (unscanned s))) passed_there ∙ ap (λ w. column_past s.phase (take m w)) at.text
      ∙ ap (column_past s.phase) (take_spaces m bs) ∙ past_spaces m s.phase

  at_further : IsAt (columns_further m s) bs (c + m)
  at_further = record {
    text = ap (λ k. drop (s.offset + k) s.bytes) passed_there ∙ sym (drop-drop m s.offset s.bytes) ∙ ap (drop m) at.text ∙ drop_spaces m bs;
    pending = omega (arith, column_there, at.pending);
    phase = ap (λ k. k % 4) column_there ∙ omega (arith, at.phase);
  }

  pub at_space : (n : ℕ) → m ≤ n → (m ≡ n) ⊎ (begins_with is_space_or_tab bs ≡ false) → IsAt (after_space n s) bs (c + m)
  at_space n few ends = subst (λ k. IsAt (columns_further k s) bs (c + m)) (sym (found_there n few ends)) at_further

-- n plain bytes further
pub at_bytes : (s : LineState) (front bs : List ℕ) (c : ℕ) → IsAt s (front ++ bs) c → IsAt (bytes_further (length front) s) bs (c + length front)
at_bytes s front bs c at = record {
  text = sym (drop-drop (length front) s.offset s.bytes) ∙ ap (drop (length front)) at.text ∙ drop-append_seam front bs;
  pending = at.pending;
  phase = omega (arith, at.phase);
}

-- a line is left as it is, where its tabs are as wide
pub alike_at : (line : List ℕ) (t : LineState) (c : ℕ) → IsAt t line c → KeepsTabs c line → Alike (start_of line) t
alike_at line t c at keeps = record { text = sym at.text; pending = sym at.pending; columns = by keeps }
  where
    by : KeepsTabs c line → (0 ≡ t.phase) ⊎ (has_no_tab (unscanned t) ≡ true)
    by (inl none) = inr (ap has_no_tab at.text ∙ none)
    by (inr whole) = inl (omega (arith, at.phase, whole))

-- spaces before a text, and a test
pub blank_spaces : (n : ℕ) (bs : List ℕ) → is_blank (spaces n ++ bs) ≡ is_blank bs
blank_spaces zero bs = refl
blank_spaces (suc n) bs = ap (list_all is_space_or_tab) (head-cons 32 (spaces n ++ bs) refl) ∙ blank_spaces n bs

pub not_true : (b : Bool) → not b ≡ true → b ≡ false
not_true true e = cc
not_true false e = refl
