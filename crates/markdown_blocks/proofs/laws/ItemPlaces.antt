-- The offsets of a line after a list marker and spaces, and of one that is indented as its text.
use Rattle.std.proofs.Common.{ℕ, suc, true, false, not, ◌==◌, ◌+◌, ◌-◌, ◌≡◌, ◌≤◌, ◌<◌, ◌⊎◌, List, ◌∷◌, ◌++◌, length}
use Rattle.std.proofs.Common.{Some, None, refl, sym, ap, ◌∙◌, subst, arith, inl, inr, eq-eqb}
use Rattle.std.specs.Prelude.{nat_lt}
use Rattle.std.proofs.lemmas.Bool.{lt-ltb, le-ltb}
use Rattle.std.proofs.lemmas.Bool.Decides.{nat_tests}
use Rattle.markdown_scanners_tree.specs.Bytes.{begins_with, is_space_or_tab}
use Rattle.markdown_scanners_tree.specs.line.ItemRules.{start_of}
use Rattle.markdown_scanners_tree.specs.line.Outcome.{space_or_end_follows}
use Rattle.markdown_scanners_tree.specs.line.PlainStep.{marker_spaces}
use Rattle.markdown_scanners_tree.specs.line.State.{LineState, unscanned, rest_of, leading_spaces, space_within, after_space}
use Rattle.markdown_scanners_tree.specs.scanners.Breaks.{is_thematic_break}
use Rattle.markdown_scanners_tree.proofs.line.SpaceLemmas.{none_at_front}
use Rattle.markdown_blocks.specs.blank_lines.BlankLines.{is_blank}
use Rattle.markdown_blocks.specs.containers.Containers.{within, match_line, rest_at}
use Rattle.markdown_blocks.specs.containers.ItemMarkers.{further_spaces}
use Rattle.markdown_values.specs.declared.values.extensions.Extensions.{Extensions}
use Rattle.markdown_blocks.specs.declared.containers.Container.{Container}
use Rattle.markdown_blocks.specs.blocks.Leaves.{HasIndent}
use Rattle.markdown_blocks.specs.laws.Held.{KeepsTabs}
use Rattle.markdown_blocks.specs.laws.Items.{Lead, IsLead, width_of, item_by, begun_by, marked_line, IsItemLine, IsIndentedLine, IsLessIndented}
use Rattle.markdown_blocks.proofs.containers.ContainerLemmas.{step_on}
use Rattle.markdown_blocks.proofs.laws.AlikeLemmas.{Alike, same_left}
use Rattle.markdown_blocks.proofs.laws.SameContainers.{same_on}
use Rattle.markdown_blocks.proofs.laws.HeldLaw.{Begins, GoesOn, StaysOut}
use Rattle.markdown_blocks.proofs.laws.MarkerPlaces.{after_marker, at_tail, begun_there}
use Rattle.markdown_blocks.proofs.laws.Places.{spaces, IsAt, at_start, at_space, alike_at, blank_spaces}
use Rattle.markdown_blocks.proofs.laws.Places.{found_there, leading_more, left_there, not_true}

few_spaces : (g : ℕ) → g < 4 → marker_spaces g ≡ g
few_spaces g few = let test : nat_lt g 4 ≡ true = lt-ltb g 4 few in rw test refl

many_spaces : (g : ℕ) → 4 ≤ g → marker_spaces g ≡ 0
many_spaces g many = let test : nat_lt g 4 ≡ false = le-ltb g 4 many in rw test refl

module _ (lead : Lead) (is : IsLead lead) (line changed : List ℕ) (i : IsItemLine lead line changed) where
  abbrev g : ℕ
  g = lead.gap - 1

  abbrev marked : LineState
  marked = after_marker lead is changed (spaces lead.gap ++ line) i.parts

  abbrev after : LineState
  after = after_space 1 marked

  abbrev next : LineState
  next = after_space g after

  abbrev passed : ℕ
  passed = 0 + lead.indent + length lead.marker

  at_gap : IsAt marked (spaces (suc g) ++ line) passed
  at_gap =
      let all : lead.gap ≡ suc g = omega (arith, is.some) in
      subst (λ n. IsAt marked (spaces n ++ line) passed) all (at_tail lead is changed (spaces lead.gap ++ line) i.parts)

  at_further : IsAt after (spaces g ++ line) (passed + 1)
  at_further = at_space marked 1 (spaces g ++ line) passed at_gap 1 (omega arith) (inl refl)

  at_text : IsAt next line (passed + 1 + g)
  at_text = at_space after g line (passed + 1) at_further g (omega arith) (inl refl)

  columns_are : passed + 1 + g ≡ width_of lead
  columns_are = omega (arith, is.some)

  line_alike : Alike (start_of line) next
  line_alike = alike_at line next (width_of lead) (subst (λ c. IsAt next line c) columns_are at_text) i.tabs

  has_text : is_blank line ≡ false
  has_text = not_true (is_blank line) i.text

  space_follows : space_or_end_follows marked ≡ true
  space_follows =
      let left = left_there marked (suc g) line passed at_gap in
      let count = ap leading_spaces left ∙ leading_more (suc g) _ in
      let some : nat_lt 0 (leading_spaces (rest_of marked)) ≡ true = lt-ltb 0 (leading_spaces (rest_of marked)) (omega (arith, count)) in
      rw some refl

  spaces_by : (not (begins_with is_space_or_tab line) ≡ true) ⊎ ((lead.gap ≡ 1) × HasIndent (rest_at (start_of line)))
      → marker_spaces (leading_spaces (rest_of after)) ≡ g
  spaces_by (inl text) =
      let left = left_there after g line (passed + 1) at_further in
      let none = none_at_front line (after.phase + g) (not_true (begins_with is_space_or_tab line) text) in
      let count : leading_spaces (rest_of after) ≡ g = ap leading_spaces left ∙ leading_more g _ ∙ omega (arith, none) in
      ap marker_spaces count ∙ few_spaces g (omega (arith, is.some, is.most))
  spaces_by (inr code) =
      let none : g ≡ 0 = omega (arith, code.0) in
      let at : IsAt after line (passed + 1) = subst (λ n. IsAt after (spaces n ++ line) (passed + 1)) none at_further in
      let column : passed + 1 ≡ width_of lead = omega (arith, code.0) in
      let alike : Alike (start_of line) after = alike_at line after (width_of lead) (subst (λ c. IsAt after line c) column at) i.tabs in
      let same : leading_spaces (rest_of (start_of line)) ≡ leading_spaces (rest_of after) = ap leading_spaces (same_left _ _ alike) in
      let many : 4 ≤ leading_spaces (rest_of after) = omega (arith, same, code.1) in
      many_spaces (leading_spaces (rest_of after)) many ∙ sym none

  spaces_are : marker_spaces (leading_spaces (rest_of after)) ≡ g
  spaces_are = spaces_by i.after

  further_are : further_spaces after ≡ g
  further_are =
      let bytes : is_blank (unscanned after) ≡ false = ap is_blank at_further.text ∙ blank_spaces g line ∙ has_text in
      rw bytes spaces_are

  pub item_begins : (asked : Extensions) → Begins asked (item_by lead) line changed
  item_begins asked =
      let width : lead.indent + length lead.marker + 1 + g ≡ width_of lead = omega (arith, is.some) in
      let text : is_blank (unscanned next) ≡ false = ap is_blank at_text.text ∙ has_text in (
        next,
        begun_there lead is changed (spaces lead.gap ++ line) i.parts asked next g (width_of lead) false
            (not_true (is_thematic_break (marked_line lead line)) i.no_break) space_follows further_are refl width text,
        line_alike,
      )

-- the other lines
module _ (lead : Lead) where
  indented_on : (line changed : List ℕ) → is_blank line ≡ false → changed ≡ spaces (width_of lead) ++ line → KeepsTabs (width_of lead) line
      → GoesOn (item_by lead) line changed
  indented_on line changed text parts tabs outer =
      let width = width_of lead in
      let at = subst (λ bs. IsAt (start_of changed) bs 0) parts (at_start changed) in
      let found : space_within width (start_of changed) ≡ width = found_there (start_of changed) width line 0 at width (omega arith) (inl refl) in
      let next = after_space width (start_of changed) in
      let column : 0 + width ≡ width = omega arith in
      let at_next : IsAt next line width = subst (λ c. IsAt next line c) column (at_space (start_of changed) width line 0 at width (omega arith) (inl refl)) in
      let alike : Alike (start_of line) next = alike_at line next width at_next tabs in
      let blank : is_blank changed ≡ false = ap is_blank parts ∙ blank_spaces width line ∙ text in
      let test : (space_within width (start_of changed) == width) ≡ true = eq-eqb (space_within width (start_of changed)) width found in
      let inside : within (item_by lead) (is_blank changed) (start_of changed) ≡ Some (is_blank line, next) =
      ap (λ b. within (item_by lead) b (start_of changed)) blank ∙ rw (test, text) refl in
      let there : match_line (item_by lead ∷ outer) changed ≡ step_on outer (start_of changed) (Some (is_blank line, next)) =
      ap (step_on outer (start_of changed)) inside in
      let same = same_on outer (is_blank line) (start_of line) next alike in
      (ap (λ b. b.kept) there ∙ ap suc (sym same.0), subst (λ b. Alike (match_line outer line).state b.state) (sym there) same.1)

  blank_on : (line : List ℕ) → is_blank line ≡ true → GoesOn (item_by lead) line line
  blank_on line blank outer =
      let inside : within (item_by lead) (is_blank line) (start_of line) ≡ Some (is_blank line, start_of line) =
      ap (λ b. within (item_by lead) b (start_of line)) blank ∙ rw blank refl in
      let there : match_line (item_by lead ∷ outer) line ≡ step_on outer (start_of line) (Some (is_blank line, start_of line)) =
      ap (step_on outer (start_of line)) inside in
      let alike : Alike (start_of line) (start_of line) = record { text = refl; pending = refl; columns = inl refl } in
      let same = same_on outer (is_blank line) (start_of line) (start_of line) alike in
      (ap (λ b. b.kept) there ∙ ap suc (sym same.0), subst (λ b. Alike (match_line outer line).state b.state) (sym there) same.1)

  pub item_goes_on : (line changed : List ℕ) → IsIndentedLine (width_of lead) line changed → GoesOn (item_by lead) line changed
  item_goes_on line changed (inl h) = indented_on line changed (not_true (is_blank line) h.0) h.1 h.2
  item_goes_on line changed (inr h) = subst (λ bs. GoesOn (item_by lead) line bs) (sym h.1) (blank_on line h.0)

  pub item_stays_out : (asked : Extensions) (line bare : List ℕ) → IsLessIndented asked (width_of lead) line bare
      → StaysOut asked (item_by lead) bare
  item_stays_out asked line bare q outer =
      let width = width_of lead in
      let at = subst (λ bs. IsAt (start_of bare) bs 0) q.bare_parts (at_start bare) in
      let plain = not_true (begins_with is_space_or_tab q.rest) q.text in
      let found : space_within width (start_of bare) ≡ q.left = found_there (start_of bare) q.left q.rest 0 at width (omega (arith, q.fewer)) (inr plain) in
      let blank : is_blank bare ≡ false = ap is_blank q.bare_parts ∙ blank_spaces q.left q.rest ∙ not_true (is_blank q.rest) q.some in
      let less : (space_within width (start_of bare) == width) ≡ false = (let fewer = q.fewer in grind (arith, nat_tests)) in
      let none : within (item_by lead) (is_blank bare) (start_of bare) ≡ None =
      ap (λ b. within (item_by lead) b (start_of bare)) blank ∙ rw less refl in
      let there : match_line (item_by lead ∷ outer) bare ≡ record { kept = 0; state = start_of bare } = ap (step_on outer (start_of bare)) none in
      (there, q.goes_on)

  -- a line with text stands in the item as in one of which the first line alone is read
  pub begun_same : (outer : List Container) (line : List ℕ) → is_blank line ≡ false
      → match_line (begun_by lead ∷ outer) line ≡ match_line (item_by lead ∷ outer) line
  begun_same outer line text = ap (λ b. step_on outer (start_of line) (within (begun_by lead) b (start_of line))) text
      ∙ sym (ap (λ b. step_on outer (start_of line) (within (item_by lead) b (start_of line))) text)

  pub still_text : (line changed : List ℕ) → is_blank line ≡ false → IsIndentedLine (width_of lead) line changed → is_blank changed ≡ false
  still_text line changed text (inl h) = ap is_blank h.1 ∙ blank_spaces (width_of lead) line ∙ text
  still_text line changed text (inr h) = ap is_blank h.1 ∙ text
