use Rattle.std.proofs.Common.{◌≡◌, ◌||◌, ℕ, false, List, [], ◌∷◌, refl, sym, ◌∙◌}
use Rattle.std.proofs.lemmas.Bool.{or_parts}
use Rattle.std.proofs.lemmas.Str.{IsCharBoundary-start}
use Rattle.markdown_scanners_tree.specs.Bytes.{begins_with, is_line_ending, is_space_or_tab}
use Rattle.markdown_scanners_tree.specs.scanners.reference_definitions.ReferenceDefinition.{IsGap}
use Rattle.markdown_scanners_tree.proofs.ForCallers.{IsSolid, gap_only}
use Rattle.markdown_inlines.proofs.link_tails.gap_len.Goals as goal

no_gap : IsGap []
no_gap = record { before = []; ending = []; after = []; parts = refl; spaces_before = refl; up_to_one_ending = refl; spaces_after = refl }

solid : (bytes : List ℕ) → begins_with (λ b. is_space_or_tab b || is_line_ending b) bytes ≡ false → IsSolid bytes
solid [] none = record { no_space = refl; no_ending = refl }
solid (b ∷ bs) none =
    let parts = or_parts (is_space_or_tab b) (is_line_ending b) none in record { no_space = parts.0; no_ending = parts.1 }

pub returns-else-begins_gap-clause-gap : goal.returns-else-begins_gap-clause-gap
returns-else-begins_gap-clause-gap c =
    let bytes = c.args.bytes.now in
    (gap_only bytes [] bytes refl no_gap (solid bytes (sym c.begins_gap.ensures ∙ c.if-begins_gap.false))).0

pub returns-else-begins_gap-clause-after : goal.returns-else-begins_gap-clause-after
returns-else-begins_gap-clause-after c = λ utf8. IsCharBoundary-start c.args.bytes.now utf8
