-- The text of a heading stands in its line.
use Rattle.std.proofs.Common.{ℕ, Bool, not, ◌||◌, ◌==◌, ◌+◌, ◌-◌, ◌≤◌, ◌≡◌, List, ◌++◌, length, take, drop, nat_lt}
use Rattle.std.proofs.Common.{refl, sym, ap, ◌∙◌, subst, inl, inr, arith}
use Rattle.std.specs.List.{prefix_len, suffix_len}
use Rattle.std.proofs.lemmas.Bool.{cases_Bool}
use Rattle.std.proofs.lemmas.List.{drop-drop, length-drop, length-take-le, take-append-drop, take-take, take_all}
use Rattle.std.proofs.lemmas.List.Sums.{prefix_len-le-length}
use Rattle.markdown_scanners_tree.specs.Ascii.{number_sign, space}
use Rattle.markdown_scanners_tree.specs.Bytes.{is_line_ending, is_space_or_tab, line_head}
use Rattle.markdown_scanners_tree.specs.line.Outcome.{after_all_space}
use Rattle.markdown_scanners_tree.specs.line.State.{LineState, unscanned, after_space}
use Rattle.markdown_blocks.specs.content.Parts.{Part, heading_part, without_closing, without_signs}
use Rattle.markdown_blocks.specs.content.Seen.{IsIn}
use Rattle.markdown_blocks.specs.info.Info.{after_fence, without_end, without_front}

-- the first bytes of others
record IsFrontOf (whole front : List ℕ) : Type 0 where
  count : ℕ
  within : count ≤ length whole
  taken : front ≡ take count whole

whole_front : (whole : List ℕ) → IsFrontOf whole whole
whole_front whole = record { count = length whole; within = omega arith; taken = sym (take_all (length whole) whole (omega arith)) }

front_front : (whole front more : List ℕ) → IsFrontOf whole front → IsFrontOf front more → IsFrontOf whole more
front_front whole front more f g =
    let size = ap length f.taken ∙ length-take-le f.count whole f.within in
    let low : g.count ≤ f.count = omega (arith, g.within, size) in
    record {
      count = g.count;
      within = omega (arith, low, f.within);
      taken = g.taken ∙ ap (take g.count) f.taken ∙ take-take g.count f.count whole low;
    }

end_front : (p : ℕ → Bool) (whole : List ℕ) → IsFrontOf whole (take (length whole - suffix_len p whole) whole)
end_front p whole = record { count = length whole - suffix_len p whole; within = omega arith; taken = refl }

head_front : (whole : List ℕ) → IsFrontOf whole (line_head whole)
head_front whole = record {
  count = prefix_len (λ b. not (is_line_ending b)) whole;
  within = prefix_len-le-length (λ b. not (is_line_ending b)) whole;
  taken = refl;
}

closing_front : (text : List ℕ) → IsFrontOf text (without_closing text)
closing_front text =
    let front = without_signs text in
    let inner = without_end front in
    elim (cases_Bool (length front == 0 || nat_lt (length inner) (length front))) [
      | inl closed ↦ rw closed
          (front_front text front inner (end_front (λ b. b == number_sign) text) (end_front is_space_or_tab front))
      | inr open_at_end ↦ rw open_at_end (whole_front text)
    ]

text_front : (after : List ℕ) → IsFrontOf after (without_closing (without_end (line_head after)))
text_front after =
    front_front after (without_end (line_head after)) _
    (front_front after (line_head after) _ (head_front after) (end_front is_space_or_tab (line_head after)))
    (closing_front (without_end (line_head after)))

in_line : (line after bytes : List ℕ) (k : ℕ) → after ≡ drop k line → k ≤ length line → IsFrontOf after bytes
    → IsIn line (record { columns = 0; filler = space; offset = length line - length after; bytes = bytes })
in_line line after bytes k is within f =
    let left : length after ≡ length line - k = ap length is ∙ length-drop k line in
    let size : length bytes ≡ f.count = ap length f.taken ∙ length-take-le f.count after f.within in
    let at : length line - length after ≡ k = omega (arith, left, within) in
    let whole : drop k line ≡ bytes ++ drop (k + length bytes) line =
    sym is ∙ sym (take-append-drop f.count after)
    ∙ ap (λ b. b ++ drop f.count after) (sym f.taken)
    ∙ ap (λ d. bytes ++ d) (ap (drop f.count) is ∙ drop-drop f.count k line ∙ ap (λ n. drop (k + n) line) (sym size)) in
    (omega (arith, left, within, size, f.within), subst (λ n. drop n line ≡ bytes ++ drop (n + length bytes) line) (sym at) whole)

module _ (s : LineState) (line text marked after bytes : List ℕ) (offset : ℕ) (same : s.bytes ≡ line)
    (is : text ≡ unscanned (after_all_space (after_space 4 s))) (signs : marked ≡ after_fence number_sign text)
    (spaces : after ≡ without_front marked) (ends : bytes ≡ without_closing (without_end (line_head after))) where
  at : ℕ → List ℕ → Part
  at size rest = record { columns = 0; filler = space; offset = size - length rest; bytes = without_closing (without_end (line_head rest)) }

  pub heading_is : record { columns = 0; filler = space; offset = length line - length after; bytes = bytes } ≡ heading_part s
  unfolding at
  heading_is =
      let rest : after ≡ without_front (after_fence number_sign (unscanned (after_all_space (after_space 4 s)))) =
      spaces ∙ ap without_front (signs ∙ ap (after_fence number_sign) is) in
      ap (λ b. record { columns = 0; filler = space; offset = length line - length after; bytes = b }) ends
      ∙ ap (at (length line)) rest
      ∙ ap (λ l. at (length l) (without_front (after_fence number_sign (unscanned (after_all_space (after_space 4 s)))))) (sym same)

  pub heading_in : text ≡ drop offset line → offset ≤ length line
      → IsIn line (record { columns = 0; filler = space; offset = length line - length after; bytes = bytes })
  heading_in from within =
      let p = prefix_len is_space_or_tab marked in
      let q = prefix_len (λ b. b == number_sign) text in
      let low = prefix_len-le-length is_space_or_tab marked in
      let lower = prefix_len-le-length (λ b. b == number_sign) text in
      let sized = ap length from ∙ length-drop offset line in
      let shorter = ap length signs ∙ length-drop q text in
      in_line line after bytes (offset + q + p)
      (spaces ∙ ap (drop p) (signs ∙ ap (drop q) from ∙ drop-drop q offset line) ∙ drop-drop p (offset + q) line)
      (omega (arith, low, lower, sized, shorter, within))
      (subst (IsFrontOf after) (sym ends) (text_front after))
