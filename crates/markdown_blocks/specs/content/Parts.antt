-- What each line of a leaf block has of its content. (CommonMark 0.31.2, sections 2.1, 2.2, 4.2 to 4.6, 4.8, 5.1 and 5.2)
use Rattle.std.specs.Prelude.{ℕ, zero, suc, Bool, true, false, ◌&&◌, ◌||◌, ◌==◌, ◌+◌, ◌-◌, nat_lt}
use Rattle.std.specs.Prelude.{List, [], ◌∷◌, ◌++◌, ◌≡◌, ◌⊎◌, length, take, Some, None, ⊤}
use Rattle.std.specs.Prelude.{if◌then◌else◌}
use Rattle.std.specs.List.{list_any, suffix_len}
use Rattle.markdown_scanners_tree.specs.Ascii.{carriage_return, line_feed, number_sign, space}
use Rattle.markdown_scanners_tree.specs.Bytes.{line_head}
use Rattle.markdown_scanners_tree.specs.line.ItemRules.{start_of}
use Rattle.markdown_scanners_tree.specs.line.Outcome.{after_all_space}
use Rattle.markdown_scanners_tree.specs.line.State.{LineState, unscanned, space_within, after_space}
use Rattle.markdown_blocks.specs.blank_lines.BlankLines.{is_blank}
use Rattle.markdown_blocks.specs.blocks.Leaves.{In, ClosesFence}
use Rattle.markdown_blocks.specs.containers.Containers.{all_containers, begun_at, match_line, within}
use Rattle.markdown_blocks.specs.declared.blocks.BlockKind.{BlockKind}
use Rattle.markdown_blocks.specs.declared.blocks.BlockKind.TheVariants.{Blank, Break, Heading, Setext, Indented, Fenced, Html, Table}
use Rattle.markdown_blocks.specs.declared.containers.Container.{Container}
use Rattle.markdown_blocks.specs.declared.containers.Container.TheVariants.{Quote, Item, Footnote, TermDefinition}
use Rattle.markdown_blocks.specs.info.Info.{after_fence, without_end, without_front}

-- A part of a line: so many columns, which stand in place of the byte before this offset, and the bytes from there on. The columns
-- are filled with spaces where that byte is a tab that is cut (2.2), and one with a line feed where a line ending ends with it (2.1).
pub record Part : Type 0 where
  pub columns : ℕ
  pub filler : ℕ
  pub offset : ℕ
  pub bytes : List ℕ

-- bytes alone, from this offset on
abbrev pub one_part : ℕ → List ℕ → List Part
one_part offset bytes = record { columns = 0; filler = space; offset = offset; bytes = bytes } ∷ []

-- what is left of a line
abbrev pub part_at : LineState → Part
part_at s = record { columns = s.pending; filler = space; offset = s.offset; bytes = unscanned s }

-- the same part, where so many bytes stand before its line
abbrev pub moved : ℕ → Part → Part
moved before p = record { columns = p.columns; filler = p.filler; offset = before + p.offset; bytes = p.bytes }

-- a carriage return stands in a line, in whose line ending alone one may (2.1)
abbrev pub has_return : List ℕ → Bool
has_return bytes = list_any (λ b. b == carriage_return) bytes

-- the same part up to its line ending
abbrev pub head_of : Part → Part
head_of p = record { columns = p.columns; filler = p.filler; offset = p.offset; bytes = line_head p.bytes }

-- a line feed in place of the line ending with which the part ends
abbrev pub ending_of : Part → Part
ending_of p = record { columns = 1; filler = line_feed; offset = p.offset + length p.bytes; bytes = [] }

-- its line ending written as a line feed
abbrev pub ended : Part → List Part
ended p = if has_return p.bytes then head_of p ∷ ending_of p ∷ [] else p ∷ []

-- Of code and HTML each line ending is written as a line feed. Other text is read for its inlines, of which one is the line ending.
abbrev pub written : BlockKind → Part → List Part
written Indented p = ended p
written (Fenced count byte) p = ended p
written (Html kind) p = ended p
written kind p = p ∷ []

-- the offset after the markers of so many containers that begin one in the other, as far as they do
abbrev pub after_markers : ℕ → LineState → LineState
after_markers zero s = s
after_markers (suc n) s = elim (begun_at all_containers s) [ Some r ↦ after_markers n r.1 | None ↦ s ]

-- the offset in a block's first line after these containers: it goes on with the first of them, so many, and begins the others
abbrev pub first_offset : ℕ → List Container → List ℕ → LineState
first_offset kept outer line = after_markers (length outer - kept) (match_line (take kept outer) line).state

-- of a blank line as much of the indent of an item or a definition as is there is left out (5.2)
abbrev pub after_width : ℕ → Bool → LineState → LineState
after_width width false s = s
after_width width true s = after_space width s

abbrev pub after_indent : Container → Bool → LineState → LineState
after_indent Quote blank s = s
after_indent (Item item) blank s = after_width item.width blank s
after_indent Footnote blank s = after_width 4 blank s
after_indent (TermDefinition definition) blank s = after_width definition.width blank s

-- the offset in a line of code or HTML after the containers that it goes on with
abbrev pub after_containers : Bool → List Container → LineState → LineState
after_containers blank [] s = s
after_containers blank (c ∷ inner) s =
    elim (within c blank s) [
      | Some r ↦ after_containers r.0 inner (after_indent c blank r.1)
      | None ↦ s
    ]

abbrev pub offset_inside : List Container → List ℕ → LineState
offset_inside outer line = after_containers (is_blank line) outer (start_of line)

-- the offset in a later line of a block after its containers; a line of a paragraph is not blank, and may be lazy
abbrev pub later_offset : BlockKind → List Container → List ℕ → LineState
later_offset Indented outer line = offset_inside outer line
later_offset (Fenced count byte) outer line = offset_inside outer line
later_offset (Html kind) outer line = offset_inside outer line
later_offset kind outer line = (match_line outer line).state

-- Where the content of a line begins: of indented code after four columns (4.4), of fenced code after as many as its fence is
-- indented, as far as they are there (4.5), of HTML at once (4.6), and of other text after all spaces and tabs (4.8).
abbrev pub text_offset : BlockKind → ℕ → LineState → LineState
text_offset Indented indent s = after_space 4 s
text_offset (Fenced count byte) indent s = after_space indent s
text_offset (Html kind) indent s = s
text_offset kind indent s = after_all_space (after_space 4 s)

-- the parts of these later lines, before which so many bytes stand
abbrev pub later_parts : BlockKind → List Container → ℕ → ℕ → List (List ℕ) → List Part
later_parts kind outer indent before [] = []
later_parts kind outer indent before (line ∷ lines) =
    written kind (moved before (part_at (text_offset kind indent (later_offset kind outer line))))
    ++ later_parts kind outer indent (before + length line) lines

-- the last line of a block is no content: the underline of a setext heading (4.3), or a closing fence (4.5)
abbrev pub IsLeftOut : BlockKind → List Container → List ℕ → Type 0
IsLeftOut (Setext level) outer last = ⊤
IsLeftOut (Fenced count byte) outer last = In outer (ClosesFence count byte) last
IsLeftOut kind outer last = ⊥

-- the later lines of a block that are content: all, or all but the last
abbrev pub AreInner : BlockKind → List Container → List (List ℕ) → List (List ℕ) → Type 0
AreInner kind outer later inner =
    ((last : List ℕ) × (later ≡ inner ++ last ∷ []) × IsLeftOut kind outer last)
    ⊎ ((inner ≡ later) × ((before : List (List ℕ)) (last : List ℕ) → later ≡ before ++ last ∷ [] → ¬ IsLeftOut kind outer last))

-- without the number signs at its end
abbrev pub without_signs : List ℕ → List ℕ
without_signs text = take (length text - suffix_len (λ b. b == number_sign) text) text

-- without a closing sequence: number signs at the end, if spaces or tabs stand before them, or nothing (4.2)
abbrev pub without_closing : List ℕ → List ℕ
without_closing text =
    let front = without_signs text in
    let inner = without_end front in
    if length front == 0 || nat_lt (length inner) (length front) then inner else text

-- The text of an ATX heading: what stands after the opening number signs, without a closing sequence, and without the spaces and
-- tabs at both ends. (4.2)
abbrev pub heading_part : LineState → Part
heading_part s =
    let text = unscanned (after_all_space (after_space 4 s)) in
    let after = without_front (after_fence number_sign text) in
    record { columns = 0; filler = space; offset = length s.bytes - length after; bytes = without_closing (without_end (line_head after)) }

-- the parts of a block's lines that are its content, where this is the offset after the containers in its first line
abbrev pub ArePartsAt : BlockKind → List Container → LineState → ℕ → List (List ℕ) → List Part → Type 0
ArePartsAt Blank outer s before later parts = parts ≡ []
ArePartsAt Break outer s before later parts = parts ≡ []
ArePartsAt (Table columns) outer s before later parts = parts ≡ []
ArePartsAt (Heading level) outer s before later parts = parts ≡ heading_part s ∷ []
ArePartsAt (Fenced count byte) outer s before later parts =
    (inner : List (List ℕ)) × AreInner (Fenced count byte) outer later inner
    × (parts ≡ later_parts (Fenced count byte) outer (space_within 4 s) before inner)
ArePartsAt kind outer s before later parts =
    (inner : List (List ℕ)) × AreInner kind outer later inner
    × (parts ≡ written kind (part_at (text_offset kind 0 s)) ++ later_parts kind outer 0 before inner)

-- The parts of these lines, which are a block of this kind in these containers; its first line goes on with so many of them. A
-- blank block, a thematic break and a table have none.
abbrev pub AreParts : BlockKind → List Container → ℕ → List (List ℕ) → List Part → Type 0
AreParts kind outer kept [] parts = parts ≡ []
AreParts kind outer kept (line ∷ later) parts =
    ArePartsAt kind outer (first_offset kept outer line) (length line) later parts

-- the parts stand one directly after the other from this offset on, and no byte is replaced
abbrev pub GoOn : ℕ → List Part → Type 0
GoOn offset [] = ⊤
GoOn offset (p ∷ parts) = (p.columns ≡ 0) × (p.offset ≡ offset) × GoOn (offset + length p.bytes) parts

-- they are one run of the page
abbrev pub AreOneRun : List Part → Type 0
AreOneRun parts = (offset : ℕ) × GoOn offset parts

-- the same two, decided
abbrev pub goes_on : ℕ → List Part → Bool
goes_on from [] = true
goes_on from (p ∷ parts) = (p.columns == 0) && ((p.offset == from) && goes_on (from + length p.bytes) parts)

abbrev pub is_one_run : List Part → Bool
is_one_run [] = true
is_one_run (p ∷ parts) = goes_on p.offset (p ∷ parts)
