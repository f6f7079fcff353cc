-- A text may be cut at both ends of each part.
use Rattle.std.proofs.Common.{ℕ, List, Option, Some, None, ◌≡◌, ◌≢◌, ◌+◌, inl, inr, refl, sym, subst, drop, arith}
use Rattle.std.proofs.lemmas.List.{take_rest}
use Rattle.std.specs.Prelude.{IfSome}
use Rattle.std.specs.Str.{IsUtf8}
use Rattle.std.specs.declared.ops.Range.{Range}
use Rattle.markdown_scanners_tree.specs.scanners.reference_definitions.ReferenceDefinition.{IsReferenceDefinition, IsCutAt}
use Rattle.markdown_scanners_c.specs.Answers.{none}
use Rattle.markdown_scanners_c.specs.ReferenceDefinitions.{IsReturnedDefinition, IsRangeAt, IsTitleAt, IsCutOut}
use Rattle.markdown_scanners_c.specs.TextPlace.{IsTextPlace}
use Rattle.markdown_scanners_c.proofs.Parts.{offset_in}
use Rattle.markdown_scanners_c.proofs.reference_definitions.mds_scan_reference_definition.Goals as goal

module _ (start : ℕ) (bytes rest : List ℕ) (same : rest ≡ drop start bytes) (text : IsTextPlace bytes start) where
  cut_range : (range : Range ℕ) (from count : ℕ) → IsRangeAt start range from count → (IsUtf8 rest → IsCutAt rest range)
      → IsCutOut bytes from count
  cut_range range from count is cut = (
    offset_in start bytes rest same text range.start from (sym is.0) (λ utf8. (cut utf8).0),
    offset_in start bytes rest same text range.end (from + count) (sym is.1) (λ utf8. (cut utf8).1),
  )

  cut_title : (title : Option (Range ℕ)) (from count : ℕ) → IsTitleAt start title from count
      → IfSome title (λ range. IsUtf8 rest → IsCutAt rest range) → from ≢ none → IsCutOut bytes from count
  cut_title None from count is cut some = absurd (some is.0)
  cut_title (Some range) from count is cut some = cut_range range from count is cut

pub returns-in_default-clause-definition : goal.returns-in_default-clause-definition
unfolding IsReturnedDefinition
returns-in_default-clause-definition c =
    let rest = take_rest c.args.bytes.now c.args.start in
    inr (
      omega arith,
      inl (
        c.no_definition-in_default.ensures,
        λ definition is. c.in_default.ensures.found definition
            (subst (λ t. IsReferenceDefinition (c.args.max_next + 1) t definition) (sym rest) is),
      ),
    )

pub returns-clause-boundary : goal.returns-clause-boundary
returns-clause-boundary c = λ text found.
    let start = c.args.start in
    let bytes = c.args.bytes.now in
    let rest = take_rest bytes start in
    let definition = c.in-Some.found in
    let is = c.in-Some.ensures.parts in (
      cut_range start bytes _ rest text definition.label _ _ (refl, omega (arith, is.label.1)) is.label_cut,
      cut_range start bytes _ rest text definition.destination _ _ (refl, omega (arith, is.destination.0)) is.destination_cut,
      cut_title start bytes _ rest text definition.title _ _ c.title_at-title_start.ensures is.title_cut,
      offset_in start bytes _ rest text definition.len _ refl is.after,
    )
