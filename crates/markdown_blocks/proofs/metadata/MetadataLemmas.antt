-- Where a metadata block at the front of a page ends.
use Rattle.std.proofs.Common.{ℕ, suc, Bool, true, false, ◌==◌, ◌&&◌, ◌||◌, ◌+◌, ◌-◌, ◌<◌, ◌≤◌, ◌≡◌, ◌⊎◌, nat_lt}
use Rattle.std.proofs.Common.{List, [], ◌∷◌, ◌++◌, length, length-append, drop}
use Rattle.std.proofs.Common.{refl, sym, ap, ◌∙◌, subst, arith, inl, inr, append_assoc}
use Rattle.std.specs.Prelude.{get_or}
use Rattle.std.specs.List.{list_all, prefix_len}
use Rattle.std.proofs.lemmas.List.Folds.{list_all-append}
use Rattle.std.proofs.Math.Seq.{get_or-append_seam}
use Rattle.markdown_scanners_tree.proofs.PrefixLemmas.{list_all-implies, prefix_len-parts}
use Rattle.std.proofs.lemmas.Bool.{cases_Bool}
use Rattle.std.proofs.lemmas.Bool.Decides.{nat_tests}
use Rattle.std.proofs.lemmas.List.{get_or-drop, length-drop}
use Rattle.std.proofs.lemmas.List.Sums.{prefix_len_passes, prefix_len_stops}
use Rattle.std.proofs.Math.ListN.{drop_of_length-le}
use Rattle.markdown_scanners_tree.specs.Ascii.{hyphen, line_feed, plus_sign}
use Rattle.markdown_scanners_tree.specs.scanners.Lines.{is_no_line_feed, next_line}
use Rattle.markdown_scanners_tree.specs.scanners.Metadata.{IsClosingMetadataBlock, IsMetadataBlock, is_after_opening}
use Rattle.markdown_blocks.specs.metadata.Metadata.{ClosesAt}

-- no bytes close a block
not_closed_by_nothing : (byte n : ℕ) → ¬ IsClosingMetadataBlock [] byte n
not_closed_by_nothing byte n close =
    let line = close.line in
    let lengths : 0 ≡ length (line.run ++ line.rest) = ap length line.is_run.parts in
    let parts = length-append line.run line.rest in
    omega (arith, lengths, parts, line.exactly_three)

pub not_closed_at_end : (page : List ℕ) (byte offset : ℕ) → length page ≤ offset → ¬ ClosesAt page byte offset
not_closed_at_end page byte offset far close =
    not_closed_by_nothing byte close.1 (subst (λ bs. IsClosingMetadataBlock bs byte close.1) (drop_of_length-le page far) close.2)

is_line_feed : (b : ℕ) → is_no_line_feed b ≡ false → b ≡ line_feed
is_line_feed b ends = grind (arith, nat_tests)

not_line_feed : (b : ℕ) → is_no_line_feed b ≡ true → ¬ (b ≡ line_feed)
not_line_feed b is same = grind (arith, nat_tests)

pub is_below : (a b : ℕ) → (a < b) ⊎ (b ≤ a)
is_below a b = elim (cases_Bool (nat_lt a b)) [
  | inl is ↦ inl (grind (arith, nat_tests))
  | inr is ↦ inr (grind (arith, nat_tests))
]

module _ (page : List ℕ) (byte offset next : ℕ) (here : offset < length page) (is : next ≡ offset + next_line (drop offset page)) where
  -- no line begins before the next
  pub open_between : (k : ℕ) → offset < k → k < next → ¬ ClosesAt page byte k
  open_between k after before close =
      let i = k - suc offset in
      let run = prefix_len is_no_line_feed (drop offset page) in
      let inside : i < run = omega (arith, after, before, is) in
      let other = prefix_len_passes is_no_line_feed (drop offset page) i 0 inside in
      let index : offset + i ≡ k - 1 = omega (arith, after) in
      let same : get_or (drop offset page) i 0 ≡ line_feed =
      get_or-drop offset page i 0 ∙ ap (λ j. get_or page j 0) index ∙ close.0 in
      not_line_feed (get_or (drop offset page) i 0) other same

  -- a line that closes the block begins after an LF
  pub closes_next : (n : ℕ) → IsClosingMetadataBlock (drop next page) byte n → ClosesAt page byte next
  closes_next n close =
      let run = prefix_len is_no_line_feed (drop offset page) in
      elim (is_below run (length (drop offset page))) [
        | inl inside ↦ (
          (let index : offset + run ≡ next - 1 = omega (arith, is, inside) in
              ap (λ j. get_or page j 0) (sym index) ∙ sym (get_or-drop offset page run 0)
              ∙ is_line_feed (get_or (drop offset page) run 0) (prefix_len_stops is_no_line_feed (drop offset page) 0 inside)),
          n,
          close,
        )
        | inr far ↦ absurd (not_closed_by_nothing byte n
            (subst (λ bs. IsClosingMetadataBlock bs byte n) (drop_of_length-le page (omega (arith, is, far, length-drop offset page, here))) close))
      ]

  module _ (start : ℕ) (before_here : (k : ℕ) → start < k → k ≤ offset → ¬ ClosesAt page byte k) where
    pub open_below : (k : ℕ) → start < k → k < next → ¬ ClosesAt page byte k
    open_below k after before close = elim (is_below offset k) [
      | inl further ↦ open_between k further before close
      | inr near ↦ before_here k after near close
    ]

    -- the line at the next offset doesn't close the block
    pub open_through : ((n : ℕ) → ¬ IsClosingMetadataBlock (drop next page) byte n) → (k : ℕ) → start < k → k ≤ next → ¬ ClosesAt page byte k
    open_through none k after up_to close = elim (is_below k next) [
      | inl before ↦ open_below k after before close
      | inr end ↦ (let same : k ≡ next = omega (arith, up_to, end) in
          none close.1 (subst (λ j. IsClosingMetadataBlock (drop j page) byte close.1) same close.2))
    ]

both_pass : (a b : Bool) → a ≡ true → b ≡ true → (a && b) ≡ true
both_pass a b is is' = cc

-- a block is closed by a line after the one after its first
pub block_closes : (page : List ℕ) (yaml pluses : Bool) (byte : ℕ) → IsMetadataBlock page yaml pluses byte
    → (offset : ℕ) × (next_line page < offset) × ClosesAt page byte offset
block_closes page yaml pluses byte is =
    let line = is.block.opening in
    let close = is.block.closed in
    let first = line.run ++ line.after in
    let no_line_feed : list_all is_no_line_feed first ≡ true =
    list_all-append is_no_line_feed line.run line.after
    ∙ both_pass _ _ (list_all-implies (λ b. b == byte) is_no_line_feed (opening_byte byte yaml pluses is.enabled) line.run line.is_run.all)
    (list_all-implies is_after_opening is_no_line_feed after_opening line.after line.all_after_opening) in
    let opened : page ≡ first ++ line_feed ∷ is.block.body =
    line.is_run.parts ∙ ap (λ bs. line.run ++ bs) line.parts ∙ sym (append_assoc line.run line.after (line_feed ∷ is.block.body)) in
    let ended : prefix_len is_no_line_feed page ≡ length first =
    ap (prefix_len is_no_line_feed) opened ∙ prefix_len-parts is_no_line_feed first (line_feed ∷ is.block.body) no_line_feed refl in
    let front = first ++ line_feed ∷ close.before in
    let parts : page ≡ front ++ line_feed ∷ close.after =
    opened ∙ ap (λ bs. first ++ line_feed ∷ bs) close.later ∙ sym (append_assoc first (line_feed ∷ close.before) (line_feed ∷ close.after)) in
    let counted : length front ≡ length first + suc (length close.before) = length-append first (line_feed ∷ close.before) in
    let before_it : suc (length front) - 1 ≡ length front = omega (arith) in
    let rest : drop (suc (length front)) page ≡ close.after = ap (drop (suc (length front))) parts ∙ drop_after front close.after in (
      suc (length front),
      omega (arith, counted, ended),
      (
        ap (λ i. get_or page i 0) before_it ∙ ap (λ bs. get_or bs (length front) 0) parts ∙ get_or-append_seam front line_feed close.after 0,
        close.n,
        subst (λ bs. IsClosingMetadataBlock bs byte close.n) (sym rest) close.closed,
      ),
    )
  where
    opening_byte : (byte : ℕ) (yaml pluses : Bool) → ((byte == hyphen && yaml) || (byte == plus_sign && pluses)) ≡ true
        → (b : ℕ) → (b == byte) ≡ true → is_no_line_feed b ≡ true
    opening_byte byte yaml pluses enabled b same = grind (arith, nat_tests)

    after_opening : (b : ℕ) → is_after_opening b ≡ true → is_no_line_feed b ≡ true
    after_opening b is = grind (arith, nat_tests)

    drop_after : (front after : List ℕ) → drop (suc (length front)) (front ++ line_feed ∷ after) ≡ after
    drop_after [] after = refl
    drop_after (b ∷ front) after = drop_after front after
