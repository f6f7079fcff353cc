-- Fences of code blocks, and backticks in a line.
use Rattle.std.proofs.Common.{◌≡◌, ℕ, zero, suc, ◌+◌, ◌≤◌, ◌<◌, Bool, true, false, ◌==◌, List, [], ◌∷◌, length, take, drop, get_or, refl, sym, ap, ◌∙◌, arith, inl, inr, Some, None, nat_eq, one-add}
use Rattle.std.specs.List.{prefix_len}
use Rattle.std.proofs.lemmas.Bool.{cases_Bool, eqb-true}
use Rattle.std.proofs.lemmas.List.{take-append-drop}
use Rattle.std.proofs.lemmas.List.Folds.{length-prefix_len}
use Rattle.memchr.specs.Find.{Nowhere, NoneBefore, Passes, is_byte2}
use Rattle.markdown_scanners_tree.specs.Ascii.{line_feed, backtick}
use Rattle.markdown_scanners_tree.specs.Bytes.{begins_with, line_ending, is_space_or_tab}
use Rattle.markdown_scanners_tree.specs.scanners.Fences.{IsFenceClose, IsClosingCodeFence, IsCodeFence, is_fence_byte, has_backtick_in_line}
use Rattle.markdown_scanners_tree.proofs.PrefixLemmas.{list_all-prefix}
use Rattle.markdown_scanners_tree.proofs.RunLemmas.{not_true, not_false, run-scanned, run-only, prefix-only, begun_by, run_begins}

-- a backtick or an LF
abbrev ends_search : ℕ → Bool
ends_search = is_byte2 backtick line_feed

-- The first backtick or LF tells whether a backtick stands before the first LF.
backtick-first : (bytes : List ℕ) (k : ℕ) → k < length bytes → ends_search (get_or bytes k 0) ≡ true
    → ((j : ℕ) → j < k → ¬ (ends_search (get_or bytes j 0) ≡ true))
    → (get_or bytes k 0 == backtick) ≡ has_backtick_in_line bytes
backtick-first [] k inside here before = absurd (omega (arith, inside))
backtick-first (b ∷ bytes) zero inside here before =
    elim (cases_Bool (b == backtick)) [
      | inl is ↦ rw (eqb-true b backtick is, one-add) refl
      | inr other ↦ (let feed = rw other at here in rw (eqb-true b line_feed feed) refl)
    ]
backtick-first (b ∷ bytes) (suc k) inside here before =
    elim (cases_Bool (b == backtick)) [
      | inl is ↦ absurd (before 0 (omega arith) (rw is refl))
      | inr other ↦ elim (cases_Bool (b == line_feed)) [
        | inl feed ↦ absurd (before 0 (omega arith) (rw (other, feed) refl))
        | inr no_feed ↦ rw (no_feed, one-add, other)
            (backtick-first bytes k (omega (arith, inside)) here (λ j lt. before (suc j) (omega (arith, lt))))
      ]
    ]

backtick-none : (bytes : List ℕ) → ((j : ℕ) → j < length bytes → ¬ (ends_search (get_or bytes j 0) ≡ true))
    → false ≡ has_backtick_in_line bytes
backtick-none [] none = refl
backtick-none (b ∷ bytes) none =
    elim (cases_Bool (b == backtick)) [
      | inl is ↦ absurd (none 0 (omega arith) (rw is refl))
      | inr other ↦ elim (cases_Bool (b == line_feed)) [
        | inl feed ↦ absurd (none 0 (omega arith) (rw (other, feed) refl))
        | inr no_feed ↦ rw (no_feed, one-add, other) (backtick-none bytes (λ j lt. none (suc j) (omega (arith, lt))))
      ]
    ]

-- what a search for the first backtick or LF tells
pub backtick-found : (bytes : List ℕ) (k : ℕ) → NoneBefore (Passes ends_search bytes) 0 (length bytes) k
    × Passes ends_search bytes k → (get_or bytes k 0 == backtick) ≡ has_backtick_in_line bytes
backtick-found bytes k (first, here) =
    backtick-first bytes k first.high here (λ j lt. first.before j (omega arith) lt)

pub backtick-not_found : (bytes : List ℕ) → Nowhere (Passes ends_search bytes) 0 (length bytes)
    → false ≡ has_backtick_in_line bytes
backtick-not_found bytes none = backtick-none bytes (λ j lt. none j (omega arith) lt)

-- closing code fences, by what the scans answered
module _ (bytes : List ℕ) (byte least run : ℕ) (is_run : run ≡ prefix_len (λ b. b == byte) bytes) where
  pub fence_close-few : run < least → (n : ℕ) → ¬ IsFenceClose bytes byte least n
  fence_close-few few n fence =
      let only = run-only byte bytes fence.run fence.rest fence.is_run in
      absurd (omega (arith, few, is_run, only.0, fence.long_enough))

  pub fence_close-scanned : (space ending : ℕ) → least ≤ run → space ≡ prefix_len is_space_or_tab (drop run bytes)
      → line_ending (drop space (drop run bytes)) ≡ Some ending → IsFenceClose bytes byte least (run + space)
  fence_close-scanned space ending enough is_space ends =
      let scanned = run-scanned byte bytes run is_run in
      let rest = drop run bytes in
      let counted : length (take space rest) ≡ space = rw is_space (length-prefix_len is_space_or_tab rest) in
      record {
        run = take run bytes;
        rest = rest;
        space = take space rest;
        after = drop space rest;
        is_run = scanned.0;
        long_enough = omega (arith, scanned.1, enough);
        parts = sym (take-append-drop space rest);
        spaces = rw is_space (list_all-prefix is_space_or_tab rest);
        ending = ending;
        ends = ends;
        counted = omega (arith, scanned.1, counted);
      }

  pub fence_close-open : (space : ℕ) → space ≡ prefix_len is_space_or_tab (drop run bytes)
      → line_ending (drop space (drop run bytes)) ≡ None → (n : ℕ) → ¬ IsFenceClose bytes byte least n
  fence_close-open space is_space ends n fence =
      let only = run-only byte bytes fence.run fence.rest fence.is_run in
      let rest : fence.rest ≡ drop run bytes = only.1 ∙ ap (λ n. drop n bytes) (sym is_run) in
      let longest = prefix-only is_space_or_tab refl refl fence.rest fence.space fence.after fence.ending fence.parts
      fence.spaces fence.ends in
      let after : fence.after ≡ drop space (drop run bytes) = longest.1 ∙ (rw (rest, is_space) refl) in
      let some : line_ending (drop space (drop run bytes)) ≡ Some fence.ending =
      ap line_ending (sym after) ∙ fence.ends in
      cc

module _ (byte least n : ℕ) where
  pub closing-found : (bytes : List ℕ) → nat_eq (length bytes) 0 ≡ false → IsFenceClose bytes byte least n
      → IsClosingCodeFence bytes byte least n
  closing-found [] some fence = absurd (let empty : true ≡ false = some in cc)
  closing-found (b ∷ bytes) some fence = fence

  pub closing-only : (bytes : List ℕ) → nat_eq (length bytes) 0 ≡ false → IsClosingCodeFence bytes byte least n
      → IsFenceClose bytes byte least n
  closing-only [] some fence = absurd (let empty : true ≡ false = some in cc)
  closing-only (b ∷ bytes) some fence = fence

-- opening code fences, by what the scans answered
module _ (bytes : List ℕ) (byte run : ℕ) (begins : begins_with (λ b. b == byte) bytes ≡ true)
    (is_run : run ≡ prefix_len (λ b. b == byte) bytes) where
  -- the fence is made of the byte that begins the text
  fence-only : (n other : ℕ) → (fence : IsCodeFence bytes n other)
      → (other ≡ byte) × (length fence.run ≡ run) × (fence.rest ≡ drop run bytes)
  fence-only n other fence =
      let only = run-only other bytes fence.run fence.rest fence.is_run in
      let some : 1 ≤ length fence.run = omega (arith, fence.at_least_three) in
      let same : other ≡ byte =
      begun_by bytes other byte (run_begins other bytes fence.run fence.rest fence.is_run some) begins in
      let run_is : prefix_len (λ b. b == other) bytes ≡ run =
      ap (λ k. prefix_len (λ b. b == k) bytes) same ∙ sym is_run in
      (same, only.0 ∙ run_is, only.1 ∙ ap (λ k. drop k bytes) run_is)

  pub fence-few : run < 3 → (n other : ℕ) → ¬ IsCodeFence bytes n other
  fence-few few n other fence = let only = fence-only n other fence in
      absurd (omega (arith, few, only.1, fence.at_least_three))

  pub fence-backtick : byte ≡ backtick → has_backtick_in_line (drop run bytes) ≡ true → (n other : ℕ)
      → ¬ IsCodeFence bytes n other
  fence-backtick is_backtick has n other fence =
      let only = fence-only n other fence in
      let none : has_backtick_in_line (drop run bytes) ≡ false =
      ap has_backtick_in_line (sym only.2) ∙ not_true _ (fence.no_further_backtick (only.0 ∙ is_backtick)) in
      cc

  pub fence-scanned : is_fence_byte byte ≡ true → 3 ≤ run
      → (byte ≡ backtick → has_backtick_in_line (drop run bytes) ≡ false) → IsCodeFence bytes run byte
  fence-scanned fence three info =
      let scanned = run-scanned byte bytes run is_run in
      record {
        run = take run bytes;
        rest = drop run bytes;
        of_fence_byte = fence;
        is_run = scanned.0;
        at_least_three = omega (arith, scanned.1, three);
        no_further_backtick = λ is_backtick. not_false _ (info is_backtick);
        counted = sym scanned.1;
      }
