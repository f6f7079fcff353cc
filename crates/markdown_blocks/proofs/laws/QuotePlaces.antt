-- The offsets of a line with a block quote marker before it.
use Rattle.std.proofs.Common.{ℕ, suc, Bool, true, false, not, ◌==◌, ◌+◌, ◌≡◌, ◌≤◌, ◌⊎◌, List, ◌∷◌, ◌++◌}
use Rattle.std.proofs.Common.{Option, Some, None, refl, sym, ap, ◌∙◌, subst, arith, inl, inr}
use Rattle.std.specs.Prelude.{if◌then◌else◌}
use Rattle.markdown_scanners_tree.specs.Ascii.{greater_than_sign}
use Rattle.markdown_scanners_tree.specs.Bytes.{begins_with, is_space_or_tab}
use Rattle.markdown_scanners_tree.specs.line.ItemRules.{start_of}
use Rattle.markdown_scanners_tree.specs.line.Outcome.{after_quote}
use Rattle.markdown_scanners_tree.specs.line.State.{LineState, unscanned, bytes_further, space_within, after_space}
use Rattle.markdown_blocks.specs.blank_lines.BlankLines.{is_blank}
use Rattle.markdown_blocks.specs.containers.Containers.{past_quote, begun_at, begun_after, either_begun, extension_of}
use Rattle.markdown_blocks.specs.containers.Containers.{within, within_quote, without_terms, match_line, item_of}
use Rattle.markdown_blocks.specs.containers.ItemMarkers.{item_outcome}
use Rattle.markdown_values.specs.declared.values.extensions.Extensions.{Extensions}
use Rattle.markdown_blocks.specs.declared.containers.Container.{Container}
use Rattle.markdown_blocks.specs.declared.containers.Container.TheVariants.{Quote}
use Rattle.markdown_blocks.specs.laws.Quotes.{IsQuoted, IsBare}
use Rattle.markdown_blocks.proofs.containers.ContainerLemmas.{near, step_on}
use Rattle.markdown_blocks.proofs.laws.AlikeLemmas.{Alike}
use Rattle.markdown_blocks.proofs.laws.SameContainers.{same_on}
use Rattle.markdown_blocks.proofs.laws.Places.{spaces, IsAt, at_start, at_byte, found_there, at_space, alike_at, not_true}

-- the offset after the marker of a quoted line
module _ (line quoted : List ℕ) (q : IsQuoted line quoted) where
  abbrev marked : List ℕ
  marked = greater_than_sign ∷ (spaces q.gap ++ line)

  at_front : IsAt (start_of quoted) (spaces q.indent ++ marked) 0
  at_front = subst (λ bs. IsAt (start_of quoted) bs 0) q.parts (at_start quoted)

  indent_there : space_within 4 (start_of quoted) ≡ q.indent
  indent_there = found_there (start_of quoted) q.indent marked 0 at_front 4 (omega (arith, q.few)) (inr refl)

  at_marker : IsAt (after_space 4 (start_of quoted)) marked (0 + q.indent)
  at_marker = at_space (start_of quoted) q.indent marked 0 at_front 4 (omega (arith, q.few)) (inr refl)

  marker_there : begins_with (λ b. b == greater_than_sign) (unscanned (after_space 4 (start_of quoted))) ≡ true
  marker_there = ap (begins_with (λ b. b == greater_than_sign)) at_marker.text

  pub offset_in : LineState
  offset_in = after_quote (after_space 4 (start_of quoted))

  gap_few : (q.gap ≡ 1) ⊎ ((q.gap ≡ 0) × (not (begins_with is_space_or_tab line) ≡ true)) → (q.gap ≤ 1)
      × ((q.gap ≡ 1) ⊎ (begins_with is_space_or_tab line ≡ false))
  gap_few (inl one) = (omega (arith, one), inl one)
  gap_few (inr none) = (omega (arith, none.0), inr (not_true (begins_with is_space_or_tab line) none.1))

  at_line : IsAt offset_in line (0 + q.indent + 1 + q.gap)
  unfolding offset_in
  at_line =
      let s = after_space 4 (start_of quoted) in
      let few = gap_few q.marked in
      rw marker_there
      (at_space (bytes_further 1 s) q.gap line (0 + q.indent + 1) (at_byte s greater_than_sign (spaces q.gap ++ line) (0 + q.indent) at_marker) 1 few.0 few.1)

  pub line_alike : Alike (start_of line) offset_in
  line_alike =
      let column : 0 + q.indent + 1 + q.gap ≡ q.indent + 1 + q.gap = omega arith in
      alike_at line offset_in (q.indent + 1 + q.gap) (subst (λ c. IsAt offset_in line c) column at_line) q.tabs

  after_there : past_quote (space_within 4 (start_of quoted)) (after_space 4 (start_of quoted)) ≡ Some offset_in
  unfolding offset_in
  after_there =
      let far : (space_within 4 (start_of quoted) == 4) ≡ false = near (space_within 4 (start_of quoted)) (omega (arith, indent_there, q.few)) in
      rw (far, marker_there) refl

  pub begun_there : (asked : Extensions) → begun_at asked (start_of quoted) ≡ Some (Quote, offset_in)
  unfolding offset_in
  begun_there asked =
      let far : (space_within 4 (start_of quoted) == 4) ≡ false = near (space_within 4 (start_of quoted)) (omega (arith, indent_there, q.few)) in
      rw (far, marker_there) refl

  pub within_there : (blank : Bool) → within Quote blank (start_of quoted) ≡ Some (is_blank line, offset_in)
  within_there blank = ap within_quote after_there ∙ ap (λ bs. Some (is_blank bs, offset_in)) at_line.text

  -- in a block quote the quoted line stands as the line does without
  module _ (outer : List Container) where
    there : match_line (Quote ∷ outer) quoted ≡ step_on outer (start_of quoted) (Some (is_blank line, offset_in))
    there = ap (step_on outer (start_of quoted)) (within_there (is_blank quoted))

    pub kept_there : (match_line (Quote ∷ outer) quoted).kept ≡ suc (match_line outer line).kept
    kept_there = ap (λ b. b.kept) there ∙ ap suc (sym (same_on outer (is_blank line) (start_of line) offset_in line_alike).0)

    pub state_there : Alike (match_line outer line).state (match_line (Quote ∷ outer) quoted).state
    state_there = subst (λ b. Alike (match_line outer line).state b.state) (sym there) (same_on outer (is_blank line) (start_of line) offset_in line_alike).1

-- a line without a marker does not stand in a block quote
abbrev begun_by : Bool → Bool → LineState → Option (Container × LineState) → Option (Container × LineState)
begun_by far here s other = if far then None else if here then Some (Quote, s) else other

abbrev after_by : Bool → Bool → LineState → Option LineState
after_by far here s = if far then None else if here then Some s else None

no_marker_by : (far here : Bool) (s : LineState) (other : Option (Container × LineState)) → begun_by far here s other ≡ None
    → after_by far here s ≡ None
no_marker_by true here s other none = refl
no_marker_by false true s other none = cc
no_marker_by false false s other none = refl

no_marker_of : (asked : Extensions) (indent : ℕ) (s : LineState) → begun_after asked indent s ≡ None → past_quote indent s ≡ None
no_marker_of asked indent s none =
    no_marker_by (indent == 4) (begins_with (λ b. b == greater_than_sign) (unscanned s)) (after_quote s)
    (either_begun (item_of (item_outcome indent s)) (extension_of asked indent s)) none

pub bare_outside : (asked : Extensions) (line bare : List ℕ) → IsBare asked line bare → (outer : List Container)
    → match_line (Quote ∷ outer) bare ≡ record { kept = 0; state = start_of bare }
bare_outside asked line bare q outer = ap (λ found. step_on outer (start_of bare) (within_quote found))
    (no_marker_of (without_terms asked) (space_within 4 (start_of bare)) (after_space 4 (start_of bare)) q.goes_on.0)
