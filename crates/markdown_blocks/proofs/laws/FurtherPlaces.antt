-- Places in a line that stand after another one, and the columns that are pending there too.
use Rattle.std.proofs.Common.{ℕ, zero, suc, ◌==◌, ◌+◌, ◌-◌, ◌<◌, ◌≤◌, ◌≡◌, List, [], length}
use Rattle.std.proofs.Common.{Option, Some, None, refl, ap, ◌∙◌, subst, arith}
use Rattle.markdown_scanners_tree.specs.Ascii.{greater_than_sign}
use Rattle.markdown_scanners_tree.specs.Bytes.{begins_with}
use Rattle.markdown_scanners_tree.specs.line.Outcome.{after_all_space, definition_outcome}
use Rattle.markdown_scanners_tree.specs.line.Outcome.{space_or_end_follows}
use Rattle.markdown_scanners_tree.specs.line.PlainStep.{definition_spaces}
use Rattle.markdown_scanners_tree.specs.line.State.{LineState, after_space, bytes_for, bytes_further, leading_spaces, rest_of, space_within, unscanned}
use Rattle.markdown_scanners_tree.specs.scanners.list_items.ListMarker.{Marker}
use Rattle.markdown_scanners_tree.specs.scanners.list_items.ListMarker.{list_marker}
use Rattle.markdown_scanners_tree.proofs.line.ColumnLemmas.{bool_cases}
use Rattle.markdown_blocks.specs.containers.Containers.{all_containers, begun_at, either_begun, extension_of}
use Rattle.markdown_blocks.specs.containers.Containers.{footnote_by, footnote_of, item_of, term_definition_by, term_definition_of}
use Rattle.markdown_blocks.specs.containers.Footnotes.{footnote_label}
use Rattle.markdown_blocks.specs.containers.ItemMarkers.{further_spaces, item_outcome, item_outcome_by}
use Rattle.markdown_blocks.specs.declared.containers.Container.{Container}
use Rattle.markdown_blocks.specs.declared.containers.Container.TheVariants.{Quote}
use Rattle.markdown_blocks.proofs.containers.ContainerLemmas.{definition_marked}
use Rattle.markdown_blocks.proofs.content.ReachedPlaces.{marker_low, near}

-- The offset stands at so many bytes or further; and further, if a column of a tab before it is pending.
abbrev pub IsFurther : ℕ → LineState → Type 0
IsFurther low s = (low ≤ s.offset) × (0 < s.pending → low < s.offset)

module _ (low : ℕ) (s : LineState) (f : IsFurther low s) where
  pub further_space : (n : ℕ) → IsFurther low (after_space n s)
  further_space n = (omega (arith, f.0), by (bytes_for (space_within n s) s) refl)
    where
      by : (m : ℕ) → m ≡ bytes_for (space_within n s) s → 0 < (after_space n s).pending → low < (after_space n s).offset
      by zero none some =
          let left : (after_space n s).pending ≡ s.pending + s.phase - (s.phase + space_within n s) =
          rw (← none) refl in
          omega (arith, f.1 (omega (arith, some, left)), none)
      by (suc m) is some = omega (arith, is, f.0)

  pub further_text : IsFurther low (after_all_space s)
  further_text = (omega (arith, f.0), λ some. absurd (omega (arith, some)))

-- a marker of a byte or more is passed
marker_further : (n : ℕ) (t : LineState) → t.pending ≡ 0 → 1 ≤ n → IsFurther (suc t.offset) (bytes_further n t)
marker_further n t spent some = (omega (arith, some), λ pending. absurd (omega (arith, spent, pending)))

-- ---- the markers of containers

abbrev offset_in : {A : Type 0} → LineState → Option (A × LineState) → LineState
offset_in s None = s
offset_in s (Some r) = r.1

module _ (t : LineState) (spent : t.pending ≡ 0) (next : LineState) (c : Container) where
  abbrev After : LineState → Type 0
  After s = IsFurther (suc t.offset) s

  quote_further : ◌≡◌ {A = Option (Container × LineState)} (Some (Quote, after_space 1 (bytes_further 1 t))) (Some (c, next)) → After next
  quote_further is =
      subst After (ap (offset_in t) is) (further_space (suc t.offset) (bytes_further 1 t) (marker_further 1 t spent (omega arith)) 1)

  item_further : (indent : ℕ) (o : Option Marker) → list_marker (unscanned t) ≡ o → item_of (item_outcome_by indent t o) ≡ Some (c, next)
      → After next
  item_further indent None none is = cc
  item_further indent (Some m) some is =
      let marked = bytes_further m.width t in
      let one = further_space (suc t.offset) marked (marker_further m.width t spent (marker_low (unscanned t) m some).0) 1 in
      let all = further_space (suc t.offset) (after_space 1 marked) one (further_spaces (after_space 1 marked)) in
      bool_cases (space_or_end_follows marked)
      (λ follows. subst After (ap (offset_in t) (rw follows at is)) all)
      (λ bare. let none : ◌≡◌ {A = Option (Container × LineState)} None (Some (c, next)) = rw bare at is in cc)

  footnote_further : (label : Option (List ℕ)) → footnote_by t label ≡ Some (c, next) → After next
  footnote_further None is = cc
  footnote_further (Some label) is =
      let after = bytes_further (length label + 4) t in
      subst After (ap (offset_in t) is)
      (further_space (suc t.offset) after (marker_further (length label + 4) t spent (omega arith)) (leading_spaces (rest_of after)))

  definition_further : (indent : ℕ) → term_definition_by (definition_outcome indent t) ≡ Some (c, next) → After next
  definition_further indent is =
      let marked = definition_marked indent t (c, next) is in
      let after = bytes_further 1 t in
      subst After (ap (offset_in t) (rw marked at is))
      (further_space (suc t.offset) after (marker_further 1 t spent (omega arith)) (definition_spaces (leading_spaces (rest_of after))))

  extension_further : (indent : ℕ) (footnote : Option (Container × LineState)) → footnote_of all_containers t ≡ footnote
      → either_begun footnote (term_definition_of all_containers indent t) ≡ Some (c, next) → After next
  extension_further indent (Some found) footnote is = footnote_further (footnote_label (unscanned t)) (footnote ∙ is)
  extension_further indent None footnote is = definition_further indent is

  other_further : (indent : ℕ) (item : Option (Container × LineState)) → item_of (item_outcome indent t) ≡ item
      → either_begun item (extension_of all_containers indent t) ≡ Some (c, next) → After next
  other_further indent (Some found) item is = item_further indent (list_marker (unscanned t)) refl (item ∙ is)
  other_further indent None item is = extension_further indent (footnote_of all_containers t) refl is

-- what stands after a container's marker stands after its first byte
pub begun_further : (s next : LineState) (c : Container) → begun_at all_containers s ≡ Some (c, next)
    → IsFurther (suc (after_space 4 s).offset) next
begun_further s next c is =
    let t = after_space 4 s in
    let n = space_within 4 s in
    bool_cases (n == 4)
    (λ far. let none : ◌≡◌ {A = Option (Container × LineState)} None (Some (c, next)) = rw far at is in cc)
    (λ few. bool_cases (begins_with (λ b. b == greater_than_sign) (unscanned t))
    (λ quote. quote_further t (near [] s few) next c (rw (few, quote) at is))
    (λ other. other_further t (near [] s few) next c n (item_of (item_outcome n t)) refl (rw (few, other) at is)))
