-- Nothing is gathered of a content that begins with no definition.
use Rattle.std.proofs.Common.{ℕ, List, [], ◌++◌, ◌-◌, ◌≡◌, inl, inr, length, take, Option, Some, None, false, subst, arith, append-nil, ◌∷◌}
use Rattle.std.specs.Prelude.{is_some}
use Rattle.std.specs.List.{flat_map}
use Rattle.markdown_scanners_tree.specs.SomeExactly.{SomeExactly}
use Rattle.markdown_scanners_tree.specs.declared.scanners.reference_definitions.ReferenceDefinition.{ReferenceDefinition}
use Rattle.markdown_blocks.specs.declared.blocks.BlockKind.{BlockKind}
use Rattle.markdown_blocks.specs.declared.blocks.BlockKind.TheVariants.{Blank, Break, Heading, Setext, Indented, Fenced, Html, Table, Definition, Paragraph}
use Rattle.markdown_blocks.specs.declared.containers.Container.{Container}
use Rattle.markdown_blocks.specs.definitions.Content.{content_in, words_in}
use Rattle.markdown_blocks.specs.definitions.Definitions.{IsDefinition}
use Rattle.markdown_blocks.specs.definitions.LabelEnds.{has_label_end}
use Rattle.markdown_blocks.specs.info.Info.{without_front}
use Rattle.markdown_blocks.specs.walk.Walk.{IsGathered}
use Rattle.markdown_blocks.proofs.definitions.LabelEnds.{none_without_label_end}

pub none_gathered : (kind : BlockKind) (outer : List Container) (text : List ℕ) (later : List (List ℕ)) (gathered : List ℕ) → gathered ≡ []
    → ((more : List ℕ) (d : ReferenceDefinition) → ¬ IsDefinition (without_front text ++ more) d)
    → IsGathered (content_in kind outer text later) gathered
none_gathered Paragraph outer text later gathered none plain = inr (none, plain (flat_map (words_in outer) later))
none_gathered Definition outer text later gathered none plain = inr (none, plain (flat_map (words_in outer) later))
none_gathered (Setext level) outer text later gathered none plain = inr (none, plain (flat_map (words_in outer) (take (length later - 1) later)))
none_gathered Blank outer text later gathered none plain = inl none
none_gathered Break outer text later gathered none plain = inl none
none_gathered (Heading level) outer text later gathered none plain = inl none
none_gathered Indented outer text later gathered none plain = inl none
none_gathered (Fenced count byte) outer text later gathered none plain = inl none
none_gathered (Html kind) outer text later gathered none plain = inl none
none_gathered (Table columns) outer text later gathered none plain = inl none

-- none is found where none stands
pub none_scanned : (content : List ℕ) (found : Option ReferenceDefinition) → SomeExactly (IsDefinition content) found → is_some found ≡ false
    → (d : ReferenceDefinition) → ¬ IsDefinition content d
none_scanned content None none absent = none
none_scanned content (Some d) found absent = cc

-- nothing is gathered of one in which none stands
pub nothing_gathered : (kind : BlockKind) (outer : List Container) (text : List ℕ) (later : List (List ℕ)) (content gathered : List ℕ)
    → gathered ≡ [] → content ≡ content_in kind outer text later → ((d : ReferenceDefinition) → ¬ IsDefinition content d)
    → IsGathered (content_in kind outer text later) gathered
nothing_gathered kind outer text later content gathered none is plain =
    inr (none, subst (λ c. (d : ReferenceDefinition) → ¬ IsDefinition c d) is plain)

-- nothing is gathered of one line in which no label ends
pub one_line_gathered : (kind : BlockKind) (outer : List Container) (text line : List ℕ) (later : List (List ℕ)) (gathered : List ℕ)
    → gathered ≡ [] → 1 ≡ length (line ∷ later) → has_label_end (without_front text) ≡ false
    → IsGathered (content_in kind outer text later) gathered
one_line_gathered kind outer text line (next ∷ later) gathered none one no_end = absurd (omega (arith, one))
one_line_gathered kind outer text line [] gathered none one no_end = by kind
  where
    plain : (d : ReferenceDefinition) → ¬ IsDefinition (without_front text ++ []) d
    plain d is = none_without_label_end (without_front text) no_end d (subst (λ t. IsDefinition t d) (append-nil (without_front text)) is)

    by : (k : BlockKind) → IsGathered (content_in k outer text []) gathered
    by Paragraph = inr (none, plain)
    by Definition = inr (none, plain)
    by (Setext level) = inr (none, plain)
    by Blank = inl none
    by Break = inl none
    by (Heading level) = inl none
    by Indented = inl none
    by (Fenced count byte) = inl none
    by (Html kind) = inl none
    by (Table columns) = inl none
