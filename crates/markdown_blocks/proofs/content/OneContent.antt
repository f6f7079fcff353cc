-- A block has one content.
use Rattle.std.proofs.Common.{ℕ, List, [], ◌∷◌, ◌++◌, ◌≡◌, length, sym, ap, ◌∙◌, inl, inr}
use Rattle.std.proofs.lemmas.List.{same_from_push}
use Rattle.markdown_scanners_tree.specs.line.State.{LineState, space_within}
use Rattle.markdown_blocks.specs.content.Content.{IsContent, Placed, content_with}
use Rattle.markdown_blocks.specs.content.Parts.{AreInner, AreParts, ArePartsAt, Part, first_offset, later_parts, part_at, text_offset, written}
use Rattle.markdown_blocks.specs.declared.blocks.BlockKind.{BlockKind}
use Rattle.markdown_blocks.specs.declared.blocks.BlockKind.TheVariants.{Blank, Break, Heading, Setext, Indented, Fenced, Html, Table, Definition, Paragraph}
use Rattle.markdown_blocks.specs.declared.containers.Container.{Container}

one_inner : (kind : BlockKind) (outer : List Container) (later inner other : List (List ℕ)) → AreInner kind outer later inner
    → AreInner kind outer later other → inner ≡ other
one_inner kind outer later inner other (inl h) (inl g) = (same_from_push inner other h.0 g.0 (sym h.1 ∙ g.1)).0
one_inner kind outer later inner other (inl h) (inr g) = absurd (g.1 inner h.0 h.1 h.2)
one_inner kind outer later inner other (inr h) (inl g) = absurd (h.1 other g.0 g.1 g.2)
one_inner kind outer later inner other (inr h) (inr g) = h.0 ∙ sym g.0

text_parts : (kind : BlockKind) (outer : List Container) (s : LineState) (before : ℕ) (later : List (List ℕ)) (parts other : List Part)
    → (inner : List (List ℕ)) × AreInner kind outer later inner
    × (parts ≡ written kind (part_at (text_offset kind 0 s)) ++ later_parts kind outer 0 before inner)
    → (inner : List (List ℕ)) × AreInner kind outer later inner
    × (other ≡ written kind (part_at (text_offset kind 0 s)) ++ later_parts kind outer 0 before inner)
    → parts ≡ other
text_parts kind outer s before later parts other h g =
    h.2 ∙ ap (λ inner. written kind (part_at (text_offset kind 0 s)) ++ later_parts kind outer 0 before inner)
    (one_inner kind outer later h.0 g.0 h.1 g.1) ∙ sym g.2

one_list_at : (kind : BlockKind) (outer : List Container) (s : LineState) (before : ℕ) (later : List (List ℕ)) (parts other : List Part)
    → ArePartsAt kind outer s before later parts → ArePartsAt kind outer s before later other → parts ≡ other
one_list_at Blank outer s before later parts other h g = h ∙ sym g
one_list_at Break outer s before later parts other h g = h ∙ sym g
one_list_at (Table columns) outer s before later parts other h g = h ∙ sym g
one_list_at (Heading level) outer s before later parts other h g = h ∙ sym g
one_list_at (Fenced count byte) outer s before later parts other h g =
    h.2 ∙ ap (later_parts (Fenced count byte) outer (space_within 4 s) before) (one_inner (Fenced count byte) outer later h.0 g.0 h.1 g.1) ∙ sym g.2
one_list_at (Setext level) outer s before later parts other h g = text_parts (Setext level) outer s before later parts other h g
one_list_at Indented outer s before later parts other h g = text_parts Indented outer s before later parts other h g
one_list_at (Html kind) outer s before later parts other h g = text_parts (Html kind) outer s before later parts other h g
one_list_at Definition outer s before later parts other h g = text_parts Definition outer s before later parts other h g
one_list_at Paragraph outer s before later parts other h g = text_parts Paragraph outer s before later parts other h g

pub one_list_of_parts : (kind : BlockKind) (outer : List Container) (kept : ℕ) (lines : List (List ℕ)) (parts other : List Part)
    → AreParts kind outer kept lines parts → AreParts kind outer kept lines other → parts ≡ other
one_list_of_parts kind outer kept [] parts other h g = h ∙ sym g
one_list_of_parts kind outer kept (line ∷ later) parts other h g =
    one_list_at kind outer (first_offset kept outer line) (length line) later parts other h g

pub one_content : (kind : BlockKind) (outer : List Container) (kept : ℕ) (lines : List (List ℕ)) (content other : Placed)
    → IsContent kind outer kept lines content → IsContent kind outer kept lines other → content ≡ other
one_content kind outer kept lines content other h g =
    h.is_content ∙ ap (content_with kind) (one_list_of_parts kind outer kept lines h.parts g.parts h.are_parts g.are_parts) ∙ sym g.is_content
