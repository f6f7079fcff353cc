-- The link reference definitions of a page, and which of them a label finds. (CommonMark 0.31.2, sections 4.7 and 6.3)
use Rattle.std.specs.Prelude.{ℕ, Bool, false, ◌-◌, ◌≡◌, ◌⊎◌, List, [], ◌∷◌, ◌++◌, Option, Some, None, take, drop, option_map}
use Rattle.std.specs.Prelude.{if◌then◌else◌}
use Rattle.std.specs.Str.{IsUtf8, bytes_eq}
use Rattle.std.specs.Map.{lookup}
use Rattle.std.specs.declared.ops.Range.{Range}
use Rattle.markdown_scanners_tree.specs.NoSkips.{SkipsNothing}
use Rattle.markdown_scanners_tree.specs.declared.scanners.reference_definitions.ReferenceDefinition.{ReferenceDefinition}
use Rattle.markdown_scanners_tree.specs.linklabel.Key.{key_bytes}
use Rattle.markdown_scanners_tree.specs.linklabel.Label.{Label, IsLabel}
use Rattle.markdown_blocks.specs.blocks.Pages.{Piece, IsPage}
use Rattle.markdown_blocks.specs.byte_order_mark.ByteOrderMark.{text_of}
use Rattle.markdown_values.specs.declared.values.extensions.Extensions.{Extensions}
use Rattle.markdown_blocks.specs.definitions.Definitions.{AreDefinitions}
use Rattle.markdown_blocks.specs.events.Events.{piece_content}

-- where a definition leads: its destination, and its title, if it has one, as they are written
pub record Target : Type 0 where
  pub destination : List ℕ
  pub title : Option (List ℕ)

-- the same, and which of its texts are lent from the page
pub record LentTarget : Type 0 where
  pub target : Target
  pub is_destination_lent : Bool
  pub is_title_lent : Bool

-- a label, in which each run of white space is one space, and where its definition leads
pub record Named : Type 0 where
  pub label : List ℕ
  pub target : Target

abbrev pub slice : Range ℕ → List ℕ → List ℕ
slice range text = take (range.end - range.start) (drop range.start text)

abbrev pub target_of : List ℕ → ReferenceDefinition → Target
target_of text definition = record {
  destination = slice definition.destination text;
  title = option_map (λ title. slice title text) definition.title;
}

-- What the definition at the front of a text names: its label. One whose label is not UTF-8 has no characters that another label
-- could match, and names nothing.
pub record IsNamed (text : List ℕ) (definition : ReferenceDefinition) (named : List Named) : Type 0 where
  pub label : Label
  pub is_label : IsLabel SkipsNothing (drop definition.label.start text) false label
  pub named_is : (IsUtf8 (take label.len (drop definition.label.start text))
      × (named ≡ record { label = label.text; target = target_of text definition } ∷ []))
      ⊎ ((¬ IsUtf8 (take label.len (drop definition.label.start text))) × (named ≡ []))

-- what definitions at the front of a text name, one after another
abbrev pub AreNamed : List ℕ → List ReferenceDefinition → List Named → Type 0
AreNamed text [] named = named ≡ []
AreNamed text (definition ∷ more) named =
    (here : List Named) × (later : List Named) × IsNamed text definition here
    × AreNamed (drop definition.len text) more later × (named ≡ here ++ later)

-- what the definitions name that a content begins with (4.7)
pub record Names (content : List ℕ) (named : List Named) : Type 0 where
  pub definitions : List ReferenceDefinition
  pub rest : List ℕ
  pub are_definitions : AreDefinitions content definitions rest
  pub are_named : AreNamed content definitions named

-- what the definitions of blocks name, in the order of the page
abbrev pub AreNamedIn : List Piece → List Named → Type 0
AreNamedIn [] named = named ≡ []
AreNamedIn (piece ∷ later) named =
    (here : List Named) × (more : List Named) × Names (piece_content piece) here × AreNamedIn later more × (named ≡ here ++ more)

-- what the definitions of a page name, with these extensions on
pub record HasDefinitions (asked : Extensions) (page : List ℕ) (named : List Named) : Type 0 where
  pub pieces : List Piece
  pub is_page : IsPage asked (text_of page) pieces
  pub are_named : AreNamedIn pieces named

-- Two labels match where their case foldings are equal. (6.3)
abbrev pub do_match : List ℕ → List ℕ → Bool
do_match one other = bytes_eq (key_bytes one) (key_bytes other)

-- where the first definition leads whose label matches (4.7: the first one takes precedence)
abbrev pub first_of : List ℕ → List Named → Option Target
first_of label [] = None
first_of label (named ∷ more) = if do_match label named.label then Some named.target else first_of label more

-- Definitions that are known, by the case foldings of their labels.
abbrev pub Known : Type 0
Known = List (List ℕ × LentTarget)

abbrev pub target_in : LentTarget → Target
target_in lent = lent.target

-- where a label leads among those that are known
abbrev pub known_as : Known → List ℕ → Option Target
known_as known label = option_map target_in (lookup (bytes_eq (key_bytes label)) known)

-- where a label leads among those that are known, and these later ones
abbrev pub known_before : Known → List Named → List ℕ → Option Target
known_before known later label = elim (known_as known label) [ Some target ↦ Some target | None ↦ first_of label later ]

-- Of the definitions that a content begins with, those before this offset are added.
pub record AreAddedUpTo (offset : ℕ) (content : List ℕ) (old new : Known) : Type 0 where
  pub front : List Named
  pub is_front : (later : List Named) → Names (drop offset content) later → Names content (front ++ later)
  pub added : (asked : List ℕ) → known_as new asked ≡ known_before old front asked

-- of those that it begins with after the start, those before the end
abbrev pub AreAddedBetween : ℕ → ℕ → List ℕ → Known → Known → Type 0
AreAddedBetween start end content old new =
    (front : List Named) × ((later : List Named) → Names (drop end content) later → Names (drop start content) (front ++ later))
    × ((asked : List ℕ) → known_as new asked ≡ known_before old front asked)
