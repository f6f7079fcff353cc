-- Where the blocks of a page begin and end, line by line, in their containers. (CommonMark 0.31.2, chapter 4)
use Rattle.std.specs.Prelude.{ℕ, Bool, false, true, not, ◌&&◌, ◌||◌, ◌==◌, List, [], ◌∷◌, ◌++◌, ◌≡◌, ◌≢◌, ◌⊎◌, ⊤, Option, Some, None, drop, is_some}
use Rattle.std.specs.Prelude.{IsTrue, MatchBool, if◌then◌else◌}
use Rattle.std.specs.List.{AllByRecursion, prefix_len}
use Rattle.markdown_values.specs.declared.values.HeadingLevel.{HeadingLevel}
use Rattle.markdown_scanners_tree.specs.Ascii.{colon, number_sign}
use Rattle.markdown_scanners_tree.specs.Bytes.{begins_with, is_between}
use Rattle.markdown_scanners_tree.specs.declared.scanners.html_kinds.HtmlBlockKind.{HtmlBlockKind}
use Rattle.markdown_scanners_tree.specs.declared.scanners.html_kinds.HtmlBlockKind.TheVariants.{TagAlone}
use Rattle.markdown_scanners_tree.specs.line.ItemRules.{start_of}
use Rattle.markdown_scanners_tree.specs.line.State.{LineState}
use Rattle.markdown_scanners_tree.specs.scanners.Breaks.{IsThematicBreak}
use Rattle.markdown_scanners_tree.specs.scanners.Fences.{IsCodeFence, IsClosingCodeFence}
use Rattle.markdown_scanners_tree.specs.scanners.Headings.{IsAtxHeading, IsSetextUnderline}
use Rattle.markdown_scanners_tree.specs.scanners.Interrupts.{InterruptsParagraph}
use Rattle.markdown_scanners_tree.specs.scanners.html_kinds.HtmlKinds.{IsHtmlBlockStart, ends_before_blank, is_html_end}
use Rattle.markdown_scanners_tree.specs.scanners.html_tag.HtmlTag.{IsTagAloneInLine}
use Rattle.markdown_scanners_tree.specs.scanners.list_items.ListMarker.{is_bullet}
use Rattle.markdown_blocks.specs.blank_lines.BlankLines.{is_blank}
use Rattle.markdown_blocks.specs.containers.Containers.{OpenContainers, Rest, rest_at, asked_in, begun_at, match_line, IsInside, rest_in, item_of, without_terms}
use Rattle.markdown_blocks.specs.containers.Footnotes.{footnote_label}
use Rattle.markdown_blocks.specs.containers.ItemMarkers.{item_outcome}
use Rattle.markdown_values.specs.declared.values.extensions.Extensions.{Extensions}
use Rattle.markdown_blocks.specs.declared.blocks.BlockKind.{BlockKind}
use Rattle.markdown_blocks.specs.declared.blocks.BlockKind.TheVariants.{Blank, Break, Heading, Setext, Indented}
use Rattle.markdown_blocks.specs.declared.blocks.BlockKind.TheVariants.{Fenced, Html, Table, Definition, Paragraph}
use Rattle.markdown_blocks.specs.declared.containers.Container.{Container}
use Rattle.markdown_blocks.specs.declared.containers.Container.TheVariants.{Item}
use Rattle.markdown_blocks.specs.definitions.Content.{content_of, words_in}
use Rattle.markdown_blocks.specs.definitions.Definitions.{HasText}
use Rattle.markdown_blocks.specs.blocks.Tables.{cells}
use Rattle.markdown_blocks.specs.delimiter_rows.DelimiterRows.{IsDelimiter}
use Rattle.markdown_blocks.specs.info.Info.{without_front}

-- the rest of a line is blank (4.9)
abbrev pub IsBlank : Rest → Type 0
IsBlank rest = IsTrue (is_blank rest.text)

-- four columns of space stand before its text (4.4)
abbrev pub HasIndent : Rest → Type 0
HasIndent rest = rest.indent ≡ 4

-- number signs stand at the front, and a vertical tab or a form feed directly after them
abbrev pub has_fed_signs : List ℕ → Bool
has_fed_signs text =
    begins_with (λ b. b == number_sign) text && begins_with (is_between 11 12) (drop (prefix_len (λ b. b == number_sign) text) text)

-- An ATX heading of this level begins here: after its number signs comes a space, a tab or the line's end. (4.2)
abbrev pub IsHeading : HeadingLevel → List ℕ → Type 0
IsHeading level text = IsAtxHeading text level × IsTrue (not (has_fed_signs text))

-- An HTML block of this kind begins here. After a tag that stands alone in its line come spaces and tabs alone. (4.6)
abbrev pub IsHtmlStart : HtmlBlockKind → List ℕ → Type 0
IsHtmlStart kind text =
    IsHtmlBlockStart text kind × ((n : ℕ) → kind ≡ TagAlone → IsTagAloneInLine text n → IsTrue (is_blank (drop n text)))

-- The rest of a line is the first of a block of this kind, if this is its text after its indent and it begins no container.
-- A paragraph is what is nothing else.
abbrev pub BeginsAt : BlockKind → List ℕ → Type 0
BeginsAt Blank text = ⊥
BeginsAt Indented text = ⊥
BeginsAt (Setext level) text = ⊥
BeginsAt (Table columns) text = ⊥
BeginsAt Definition text = ⊥
BeginsAt Break text = IsThematicBreak text
BeginsAt (Heading level) text = IsHeading level text
BeginsAt (Fenced count byte) text = IsCodeFence text count byte
BeginsAt (Html kind) text = IsHtmlStart kind text
BeginsAt Paragraph text =
    (¬ IsThematicBreak text) × ((level : HeadingLevel) → ¬ IsHeading level text)
    × ((fence : ℕ × ℕ) → ¬ IsCodeFence text fence.0 fence.1) × ((kind : HtmlBlockKind) → ¬ IsHtmlStart kind text)

-- the rest of a line is the first of a block of this kind
abbrev pub Begins : BlockKind → Rest → Type 0
Begins Blank rest = IsBlank rest
Begins Indented rest = (¬ IsBlank rest) × HasIndent rest
Begins kind rest = (¬ IsBlank rest) × (¬ HasIndent rest) × BeginsAt kind rest.text

-- it is the underline of a setext heading of this level, with spaces and tabs alone after it (4.3)
abbrev pub IsUnderline : HeadingLevel → Rest → Type 0
IsUnderline level rest =
    (¬ HasIndent rest) × (n : ℕ) × (underline : IsSetextUnderline rest.text n level) × IsTrue (is_blank underline.rest)

-- a list item whose first line is not blank, with a bullet or the number 1 (5.2, list items)
abbrev pub is_filled_item : Option (Container × LineState) → Bool
is_filled_item (Some (Item item, s)) = not item.starts_blank && (is_bullet item.delimiter || item.start == 1)
is_filled_item begun = false

-- such an item begins here
unfoldable pub begins_filled_item : List ℕ → Bool
begins_filled_item text = is_filled_item (item_of (item_outcome 0 (start_of text)))

-- one does, or the marker of a footnote definition stands here and footnotes are on
abbrev pub interrupts_by_marker : Extensions → List ℕ → Bool
interrupts_by_marker asked text =
    (asked.footnotes && is_some (footnote_label text)) || begins_filled_item text

-- with these extensions on a text, after fewer than four columns of space, interrupts a paragraph (4.8)
abbrev pub Interrupts : Extensions → List ℕ → Type 0
Interrupts asked text =
    (IsTrue (not (has_fed_signs text)) × InterruptsParagraph text) ⊎ IsTrue (interrupts_by_marker asked text)

-- it goes on with no paragraph: it is blank, an underline, or interrupts it (4.8)
abbrev pub EndsParagraph : Extensions → Rest → Type 0
EndsParagraph asked rest =
    IsBlank rest ⊎ (((level : HeadingLevel) × IsUnderline level rest) ⊎ ((¬ HasIndent rest) × Interrupts asked rest.text))

-- where definition lists are on, it is the marker of a definition, whose term is the paragraph before it
abbrev pub DefinesTerm : Extensions → Rest → Type 0
DefinesTerm asked rest = (¬ HasIndent rest) × IsTrue (asked.definition_lists && begins_with (λ b. b == colon) rest.text)

-- It goes on with no paragraph that is read, and is a term or not: it is blank, marks the definition of that, or interrupts it. An
-- underline would have made a heading of one that has text.
abbrev pub EndsRead : Extensions → Bool → Rest → Type 0
EndsRead asked term rest =
    IsBlank rest ⊎ ((IsTrue term × DefinesTerm asked rest) ⊎ ((¬ HasIndent rest) × Interrupts asked rest.text))

-- It goes on with no paragraph that has this content before it: it is blank, an underline after text, or the marker of a definition
-- after it, or interrupts it. After link reference definitions alone an underline is text, and so is a marker. (4.3, 4.7)
abbrev pub EndsContent : Extensions → List ℕ → Rest → Type 0
EndsContent asked content rest =
    IsBlank rest
    ⊎ (((((level : HeadingLevel) × IsUnderline level rest) ⊎ DefinesTerm asked rest) × HasText content)
    ⊎ ((¬ HasIndent rest) × Interrupts asked rest.text))

-- It closes fenced code with this fence. A last line that is nothing but spaces is none: it is code. (4.5)
abbrev pub ClosesFence : ℕ → ℕ → Rest → Type 0
ClosesFence count byte rest = (¬ HasIndent rest) × (rest.text ≢ []) × (n : ℕ) × IsClosingCodeFence rest.text byte count n

-- it meets the end condition of an HTML block: it is blank, or holds what ends the block (4.6)
abbrev pub ends_html : HtmlBlockKind → List ℕ → Bool
ends_html kind text = if ends_before_blank kind then is_blank text else is_html_end kind text

abbrev pub EndsHtml : HtmlBlockKind → Rest → Type 0
EndsHtml kind rest = IsTrue (ends_html kind rest.text)

-- The line is lazy, with this rest after fewer containers than the paragraph before it stands in: the rest begins no container,
-- and it is text that does not interrupt a paragraph. (5.1, laziness; 5.2, rule 5; "Parsing strategy", phase 1)
abbrev pub IsLazy : Extensions → LineState → Type 0
IsLazy asked s =
    (begun_at asked s ≡ None) × (¬ IsBlank (rest_at s)) × (HasIndent (rest_at s) ⊎ (¬ Interrupts asked (rest_at s).text))

-- the line stands in the open containers, and what it has after them has the property
abbrev pub In : List Container → (Rest → Type 0) → List ℕ → Type 0
In outer P line = IsInside outer line × P (rest_in outer line)

-- the line doesn't stand in them, or what it has after them has the property
abbrev pub OutOr : List Container → (Rest → Type 0) → List ℕ → Type 0
OutOr outer P line = (¬ IsInside outer line) ⊎ In outer P line

-- the line neither stands in them nor is lazy, or what it has after them has the property
abbrev pub Leaves : OpenContainers → (Rest → Type 0) → List ℕ → Type 0
Leaves outer P line =
    ((¬ IsInside outer.containers line) × (¬ IsLazy (asked_in outer line) (match_line outer.containers line).state))
    ⊎ In outer.containers P line

-- the line goes on with no paragraph in them
abbrev pub LeavesParagraph : OpenContainers → List ℕ → Type 0
LeavesParagraph outer line = Leaves outer (EndsParagraph outer.extensions) line

-- the line goes on with no paragraph in them whose first line has this text, and which has these later lines before it
abbrev pub LeavesAfter : OpenContainers → List ℕ → List (List ℕ) → List ℕ → Type 0
LeavesAfter outer text before line =
    Leaves outer (EndsContent outer.extensions (content_of outer.containers text before)) line

-- the line makes a heading of this level of that paragraph (4.3)
abbrev pub Underlines : List Container → List ℕ → List (List ℕ) → HeadingLevel → List ℕ → Type 0
Underlines outer text before level line = In outer (IsUnderline level) line × HasText (content_of outer text before)

-- In them the line is the delimiter row of a table of so many columns, after a line with this text: tables are asked for, that has
-- as many cells, and it would go on with a paragraph of that. (GitHub Flavored Markdown 0.29, section 4.10)
abbrev pub IsHead : OpenContainers → List ℕ → ℕ → List ℕ → Type 0
IsHead outer text columns line =
    (outer.extensions.tables ≡ true)
    × (¬ LeavesParagraph outer line) × In outer.containers (IsDelimiter columns) line × (cells text ≡ columns)

-- a row of a table, which is no term: it stands in the containers, is not blank, and begins no container and no other block (the same
-- section)
abbrev pub IsRow : OpenContainers → List ℕ → Type 0
IsRow outer line =
    (begun_at (without_terms outer.extensions) (match_line outer.containers line).state ≡ None)
    × In outer.containers (Begins Paragraph) line

-- the first of the lines, if there is one
abbrev pub OnFirst : (List ℕ → Type 0) → List (List ℕ) → Type 0
OnFirst P [] = ⊤
OnFirst P (line ∷ lines) = P line

-- the first of the lines is the delimiter row of no table after a line with this rest
abbrev pub BeginsNoTable : OpenContainers → Rest → List (List ℕ) → Type 0
BeginsNoTable outer first = OnFirst (λ line. (columns : ℕ) → ¬ IsHead outer first.text columns line)

-- the first of these lines is the header row of a table: the second is the delimiter row after it (the same section)
abbrev pub BeginTable : OpenContainers → List (List ℕ) → Type 0
BeginTable outer [] = ⊥
BeginTable outer (line ∷ []) = ⊥
BeginTable outer (line ∷ next ∷ lines) = (columns : ℕ) × IsHead outer (words_in outer.containers line) columns next

-- These lines end a paragraph whose first line has this text, and which has these later lines before them: the first of them goes on
-- with no such paragraph, or it does, lazy or not, and is the header row of a table.
abbrev pub EndParagraph : OpenContainers → List ℕ → List (List ℕ) → List (List ℕ) → Type 0
EndParagraph outer text before [] = ⊥
EndParagraph outer text before (line ∷ lines) =
    LeavesAfter outer text before line ⊎ ((¬ LeavesAfter outer text before line) × BeginTable outer (line ∷ lines))

-- the lines are all up to the first that has the property, or to the last line
pub record StopsBefore (P : List ℕ → Type 0) (lines rest : List (List ℕ)) : Type 0 where
  pub none : AllByRecursion (λ line. ¬ P line) lines
  pub stopped : OnFirst P rest

-- with none of the lines on do they and these have the property, after those before it
abbrev pub NoneAfter : (List (List ℕ) → List (List ℕ) → Type 0) → List (List ℕ) → List (List ℕ) → List (List ℕ) → Type 0
NoneAfter P before [] rest = ⊤
NoneAfter P before (line ∷ lines) rest = (¬ P before (line ∷ (lines ++ rest))) × NoneAfter P (before ++ line ∷ []) lines rest

-- the lines are all up to the first from which on lines have the property after those before it, or to the last line
pub record StopsAt (P : List (List ℕ) → List (List ℕ) → Type 0) (lines rest : List (List ℕ)) : Type 0 where
  pub none : NoneAfter P [] lines rest
  pub stopped : (rest ≡ []) ⊎ P lines rest

-- the last of the lines is the first that has the property, and stands in the containers; or no such line does
abbrev pub StopsAfter : List Container → (List ℕ → Type 0) → List (List ℕ) → List (List ℕ) → Type 0
StopsAfter outer P lines rest =
    ((before : List (List ℕ)) × (last : List ℕ) × (lines ≡ before ++ last ∷ []) × StopsBefore P before (last ∷ rest)
    × IsInside outer last)
    ⊎ (StopsBefore P lines rest × OnFirst (λ line. ¬ IsInside outer line) rest)

-- the line is blank in the containers, or no part of indented code in them
abbrev pub IsBlankIn : List Container → List ℕ → Type 0
IsBlankIn outer line = In outer IsBlank line

abbrev pub EndsIndented : List Container → List ℕ → Type 0
EndsIndented outer line = OutOr outer (λ rest. (¬ IsBlank rest) × (¬ HasIndent rest)) line

-- after blank lines, if there are any, comes a line that is no part of indented code, or nothing
abbrev pub NoMoreIndented : List Container → List (List ℕ) → Type 0
NoMoreIndented outer [] = ⊤
NoMoreIndented outer (line ∷ lines) = (IsBlankIn outer line × NoMoreIndented outer lines) ⊎ EndsIndented outer line

-- the last of the lines, if there is one, is not blank
abbrev pub LastHasText : List Container → List (List ℕ) → Type 0
LastHasText outer [] = ⊤
LastHasText outer (line ∷ []) = ¬ IsBlankIn outer line
LastHasText outer (line ∷ next ∷ lines) = LastHasText outer (next ∷ lines)

-- the lines of indented code after its first
pub record GoesOnIndented (outer : List Container) (later rest : List (List ℕ)) : Type 0 where
  pub inside : AllByRecursion (λ line. ¬ EndsIndented outer line) later
  pub last : LastHasText outer later
  pub stopped : NoMoreIndented outer rest

-- the lines of an HTML block of this kind after its first: none where the first meets the end condition
abbrev pub EndsAsHtml : List Container → HtmlBlockKind → Rest → List (List ℕ) → List (List ℕ) → Type 0
EndsAsHtml outer kind first later rest =
    MatchBool (ends_before_blank kind) (StopsBefore (OutOr outer (EndsHtml kind)) later rest)
    ((EndsHtml kind first × (later ≡ [])) ⊎ ((¬ EndsHtml kind first) × StopsAfter outer (OutOr outer (EndsHtml kind)) later rest))

-- After a line with this text the lines are a table's: its delimiter row, and then rows up to a line that is no row. (GFM 4.10)
abbrev pub IsTable : OpenContainers → List ℕ → ℕ → List (List ℕ) → List (List ℕ) → Type 0
IsTable outer text columns later rest =
    (head : List ℕ) × (rows : List (List ℕ)) × (later ≡ head ∷ rows)
    × IsHead outer text columns head × StopsBefore (λ line. ¬ IsRow outer line) rows rest

-- In these containers a line with this rest and the later lines are a block of this kind, and this rest of the page follows.
abbrev pub IsLeaf : OpenContainers → BlockKind → Rest → List (List ℕ) → List (List ℕ) → Type 0
IsLeaf outer Blank first later rest = Begins Blank first × StopsBefore (OutOr outer.containers (λ r. ¬ IsBlank r)) later rest
IsLeaf outer Indented first later rest = Begins Indented first × GoesOnIndented outer.containers later rest
IsLeaf outer (Fenced count byte) first later rest =
    Begins (Fenced count byte) first × StopsAfter outer.containers (OutOr outer.containers (ClosesFence count byte)) later rest
IsLeaf outer (Html kind) first later rest = Begins (Html kind) first × EndsAsHtml outer.containers kind first later rest
IsLeaf outer (Table columns) first later rest = Begins Paragraph first × IsTable outer first.text columns later rest
IsLeaf outer Paragraph first later rest =
    Begins Paragraph first × BeginsNoTable outer first (later ++ rest) × StopsAt (EndParagraph outer first.text) later rest
    × OnFirst (λ line. (level : HeadingLevel) → ¬ Underlines outer.containers first.text later level line) rest
IsLeaf outer (Setext level) first later rest =
    Begins Paragraph first
    × (middle : List (List ℕ)) × (last : List ℕ) × (later ≡ middle ++ last ∷ []) × BeginsNoTable outer first (later ++ rest)
    × StopsAt (EndParagraph outer first.text) middle (last ∷ rest) × Underlines outer.containers first.text middle level last
IsLeaf outer kind first later rest = Begins kind first × (later ≡ [])

-- the same where the line is the header row that ends the paragraph before it, or not: then it is a table whatever the line would begin
abbrev pub IsLeafAfter : Bool → OpenContainers → BlockKind → Rest → List (List ℕ) → List (List ℕ) → Type 0
IsLeafAfter false outer kind first later rest = IsLeaf outer kind first later rest
IsLeafAfter true outer (Table columns) first later rest = IsTable outer (without_front first.text) columns later rest
IsLeafAfter true outer kind first later rest = ⊥
