-- Block quotes, list items, footnote definitions and definitions of terms, line by line.
-- (CommonMark 0.31.2, sections 5.1 and 5.2, and "Parsing strategy", phase 1; GitHub Docs, footnotes; pulldown-cmark, definition lists)
use Rattle.std.specs.Prelude.{ℕ, suc, Bool, true, false, not, ◌==◌, ◌≡◌, List, [], ◌∷◌, length, drop, Option, Some, None, if◌then◌else◌}
use Rattle.std.specs.Option.{option_map}
use Rattle.markdown_scanners_tree.specs.Ascii.{greater_than_sign}
use Rattle.markdown_scanners_tree.specs.Bytes.{begins_with}
use Rattle.markdown_scanners_tree.specs.line.ItemRules.{start_of}
use Rattle.markdown_scanners_tree.specs.line.Outcome.{Outcome, after_quote, definition_outcome}
use Rattle.markdown_scanners_tree.specs.line.State.{LineState, unscanned, space_within, after_space}
use Rattle.markdown_blocks.specs.blank_lines.BlankLines.{is_blank}
use Rattle.markdown_blocks.specs.containers.Footnotes.{footnote_label, past_footnote}
use Rattle.markdown_blocks.specs.containers.ItemMarkers.{item_outcome}
use Rattle.markdown_values.specs.declared.values.extensions.Extensions.{Extensions}
use Rattle.markdown_values.specs.values.Extensions.{commonmark}
use Rattle.markdown_blocks.specs.declared.containers.Container.{Container}
use Rattle.markdown_blocks.specs.declared.containers.Container.TheVariants.{Quote, Item, Footnote, TermDefinition}

-- what a line has after its containers: at most four columns of space, and the text after them
pub record Rest : Type 0 where
  pub indent : ℕ
  pub text : List ℕ

abbrev pub rest_at : LineState → Rest
rest_at s = record { indent = space_within 4 s; text = unscanned (after_space 4 s) }

-- the block quote marker here, after so much space: what is left after it, if it stands here and the space is no indented code (5.1)
abbrev pub past_quote : ℕ → LineState → Option LineState
past_quote indent s =
    if indent == 4 then None
    else if begins_with (λ b. b == greater_than_sign) (unscanned s) then Some (after_quote s)
    else None

-- what an item's marker begins, and what is left of the line after it
abbrev pub item_of : Outcome (ℕ × ℕ × ℕ) → Option (Container × LineState)
item_of found =
    option_map (λ r. (Item (record { delimiter = r.0; start = r.1; width = r.2; starts_blank = is_blank (unscanned found.state) }), found.state)) found.answer

-- with these extensions on the footnote definition whose marker stands here, and what is left of the line after it
abbrev pub footnote_by : LineState → Option (List ℕ) → Option (Container × LineState)
footnote_by s label = option_map (λ l. (Footnote, past_footnote l s)) label

abbrev pub footnote_of : Extensions → LineState → Option (Container × LineState)
footnote_of asked s = if asked.footnotes then footnote_by s (footnote_label (unscanned s)) else None

-- the definition of a term that a definition's marker begins, and what is left of the line after it
abbrev pub term_definition_by : Outcome ℕ → Option (Container × LineState)
term_definition_by found =
    option_map (λ width. (TermDefinition (record { starts_blank = is_blank (unscanned found.state); width = width }), found.state)) found.answer

abbrev pub term_definition_of : Extensions → ℕ → LineState → Option (Container × LineState)
term_definition_of asked indent s = if asked.definition_lists then term_definition_by (definition_outcome indent s) else None

-- the first of two, if it is there, or the second
abbrev pub either_begun : (first second : Option (Container × LineState)) → Option (Container × LineState)
either_begun None second = second
either_begun (Some begun) second = Some begun

-- the container of these extensions whose marker stands here, after so much space, and what is left of the line after it
abbrev pub extension_of : Extensions → ℕ → LineState → Option (Container × LineState)
extension_of asked indent s = either_begun (footnote_of asked s) (term_definition_of asked indent s)

-- with these extensions on the container whose marker stands here, after so much space, and what is left of the line after it
-- (5.1, 5.2)
abbrev pub begun_after : Extensions → ℕ → LineState → Option (Container × LineState)
begun_after asked indent s =
    if indent == 4 then None
    else if begins_with (λ b. b == greater_than_sign) (unscanned s) then Some (Quote, after_quote s)
    else either_begun (item_of (item_outcome indent s)) (extension_of asked indent s)

-- the container that the rest of a line begins
abbrev pub begun_at : Extensions → LineState → Option (Container × LineState)
begun_at asked s = begun_after asked (space_within 4 s) (after_space 4 s)

-- the extensions with which containers begin, all of them on
abbrev pub all_containers : Extensions
all_containers = record commonmark { footnotes = true; definition_lists = true }

-- these extensions where no term stands, so that no definition of one begins
abbrev pub without_terms : Extensions → Extensions
without_terms asked = record asked { definition_lists = false }

-- The offset in the line of that container's marker, and what is left of the line after the marker. It is the same whichever of
-- the extensions with which a container begins there are on.
abbrev pub marker_start : LineState → ℕ
marker_start s = (after_space 4 s).offset

abbrev pub after_marker : LineState → LineState
after_marker s =
    elim (begun_at all_containers s) [
      | Some r ↦ r.1
      | None ↦ after_space 4 s
    ]

-- The rest of a line goes on with a container: with a block quote where its marker stands, with an item or the definition of a term
-- where the rest is indented as its text is, or blank, and with a footnote definition where it has four columns of space, or is
-- blank. An item that begins with a blank line does not go on with a second one, nor does the definition of a term. What is left of
-- the line then, and whether that is blank.
abbrev pub within_quote : Option LineState → Option (Bool × LineState)
within_quote match_line = option_map (λ s. (is_blank (unscanned s), s)) match_line

abbrev pub within_width : Bool → ℕ → Bool → LineState → Option (Bool × LineState)
within_width begun width true s = if begun then None else Some (true, s)
within_width begun width false s = if space_within width s == width then Some (false, after_space width s) else None

abbrev pub within : Container → Bool → LineState → Option (Bool × LineState)
within Quote blank s = within_quote (past_quote (space_within 4 s) (after_space 4 s))
within Footnote blank s = within_width false 4 blank s
within (Item item) blank s = within_width item.starts_blank item.width blank s
within (TermDefinition definition) blank s = within_width definition.starts_blank definition.width blank s

-- a blank line goes on with the container, whatever space it has
abbrev pub goes_on_blank : Container → Bool
goes_on_blank Quote = false
goes_on_blank Footnote = true
goes_on_blank (Item item) = not item.starts_blank
goes_on_blank (TermDefinition definition) = not definition.starts_blank

-- how many of the containers a line goes on with, the outermost first, and what is left of it after them
pub record LineMatch : Type 0 where
  pub kept : ℕ
  pub state : LineState

abbrev pub go_on : Bool → List Container → LineState → LineMatch
go_on blank [] s = record { kept = 0; state = s }
go_on blank (c ∷ inner) s =
    elim (within c blank s) [
      | Some r ↦ (let more = go_on r.0 inner r.1 in record { kept = suc more.kept; state = more.state })
      | None ↦ record { kept = 0; state = s }
    ]

-- the line, as far as it goes on with the open containers
abbrev pub match_line : List Container → List ℕ → LineMatch
match_line outer line = go_on (is_blank line) outer (start_of line)

-- the containers that are open, the outermost first, and the extensions that are on
pub record OpenContainers : Type 0 where
  pub extensions : Extensions
  pub containers : List Container

-- The containers that are open between two blocks, the outermost first, the extensions that are on, whether a term stands directly
-- before the next line, or with one blank line between, and whether a paragraph stands directly before it.
pub record Between : Type 0 where
  pub extensions : Extensions
  pub containers : List Container
  pub term : Bool
  pub paragraph : Bool

-- a line where these containers are open
pub record Line : Type 0 where
  pub outer : OpenContainers
  pub bytes : List ℕ

-- the line goes on with all of them
abbrev pub IsInside : List Container → List ℕ → Type 0
IsInside outer line = (match_line outer line).kept ≡ length outer

-- what the line has after those that it goes on with
abbrev pub rest_in : List Container → List ℕ → Rest
rest_in outer line = rest_at (match_line outer line).state

-- The extensions with which the rest of a line begins a container, where these are the open ones that the line ends: the definition of a
-- term begins where none of them ends and a term stands, or where the outermost that ends is another definition.
abbrev pub asked_first : Extensions → Bool → List Container → Extensions
asked_first asked term [] = if term then asked else without_terms asked
asked_first asked term (TermDefinition definition ∷ inner) = asked
asked_first asked term (c ∷ inner) = without_terms asked

-- the same of a line that comes next, and of a later line of a block
abbrev pub asked_between : Between → List ℕ → Extensions
asked_between before line =
    asked_first before.extensions before.term (drop (match_line before.containers line).kept before.containers)

abbrev pub asked_in : OpenContainers → List ℕ → Extensions
asked_in outer line = asked_first outer.extensions false (drop (match_line outer.containers line).kept outer.containers)

-- With these extensions on the rest of a line begins these containers, one in the other, and no further one. In a container that begins
-- there stands no term.
abbrev pub Opens : Extensions → LineState → List Container → LineState → Type 0
Opens asked s [] after = (begun_at asked s ≡ None) × (after ≡ s)
Opens asked s (c ∷ inner) after =
    (next : LineState) × (begun_at asked s ≡ Some (c, next)) × Opens (without_terms asked) next inner after

-- An item or the definition of a term of which a second line is read, and the last of open containers so.
abbrev pub past_first_line : Container → Container
past_first_line Quote = Quote
past_first_line Footnote = Footnote
past_first_line (Item item) = Item (record item { starts_blank = false })
past_first_line (TermDefinition definition) = TermDefinition (record definition { starts_blank = false })

abbrev pub last_past_first_line : List Container → List Container
last_past_first_line [] = []
last_past_first_line (c ∷ []) = past_first_line c ∷ []
last_past_first_line (c ∷ d ∷ inner) = c ∷ last_past_first_line (d ∷ inner)
