-- The link reference definitions of a page, and where they stand. (CommonMark 0.31.2, section 4.7)
use Rattle.std.specs.Prelude.{ℕ, Bool, true, false, MatchBool, ◌≡◌, ◌≤◌, ◌⊎◌, ◌-◌, List, [], ◌∷◌, ◌++◌, length, drop, take, string_bytes}
use Rattle.markdown_scanners_tree.specs.NoSkips.{SkipsNothing}
use Rattle.markdown_scanners_tree.specs.linklabel.Label.{Label, HasNoLabelInBytes, IsLabelInBytes}
use Rattle.markdown_scanners_tree.specs.scanners.TextLines.{lines_of}
use Rattle.markdown_blocks.specs.containers.Containers.{past_first_line}
use Rattle.markdown_blocks.specs.declared.blocks.BlockKind.{BlockKind}
use Rattle.markdown_blocks.specs.declared.blocks.BlockKind.TheVariants.{Definition}
use Rattle.markdown_blocks.specs.declared.containers.Container.{Container}
use Rattle.markdown_blocks.specs.definitions.Content.{content_in}
use Rattle.markdown_blocks.specs.events.Events.{Event, LeafBlock, IsEventsOf, starts, leaf, ends}
use Rattle.markdown_values.specs.declared.values.extensions.Extensions.{Extensions}
use Rattle.markdown_events.specs.page.Settings.{built}
use Rattle.page_links.specs.declared.definitions.PageDefinition.{PageDefinition}

-- A definition: how many bytes of the page stand before it, and its label, in which each run of white space is one space.
pub record Defined : Type 0 where
  pub offset : ℕ
  pub label : List ℕ

abbrev pub seen_definition : PageDefinition → Defined
seen_definition it = record { offset = it.offset; label = string_bytes it.label }

-- The definition at this offset with this content has the label after its first byte, a bracket. One that is not UTF-8 names nothing.
abbrev pub IsNamedAt : ℕ → List ℕ → List Defined → Type 0
IsNamedAt offset content defined =
    ((label : Label) × IsLabelInBytes SkipsNothing (drop 1 content) false label
    × (defined ≡ record { offset = offset; label = label.text } ∷ []))
    ⊎ (HasNoLabelInBytes SkipsNothing (drop 1 content) false × (defined ≡ []))

-- these are the lines of a leaf block
pub record AreLinesOf (page : List ℕ) (block : LeafBlock) (lines : List (List ℕ)) : Type 0 where
  pub within : block.bytes ≤ length (drop block.start page)
  pub parts : lines_of (drop block.start page) ≡ lines ++ lines_of (drop block.bytes (drop block.start page))
  pub counted : block.lines ≡ length lines

abbrev pub is_definition : BlockKind → Bool
is_definition Definition = true
is_definition kind = false

-- what a leaf block in these containers defines by its content, of which these are the lines
abbrev pub HasDefinition : List ℕ → List Container → LeafBlock → List Defined → Type 0
HasDefinition page outer block defined =
    (line : List ℕ) (later : List (List ℕ)) → AreLinesOf page block (line ∷ later)
    → IsNamedAt block.offset (content_in block.kind outer block.text later) defined

-- that, if it is a definition; and else nothing
abbrev pub IsDefinedBy : List ℕ → List Container → LeafBlock → List Defined → Type 0
IsDefinedBy page outer block defined = MatchBool (is_definition block.kind) (HasDefinition page outer block defined) (defined ≡ [])

-- without the innermost container
abbrev pub after_end : List Container → List Container
after_end outer = take (length outer - 1) outer

-- What leaf blocks define, in the order of these events, before which these containers are open.
abbrev pub AreDefinedIn : List ℕ → List Container → List Event → List Defined → Type 0
AreDefinedIn page outer [] defined = defined ≡ []
AreDefinedIn page outer (starts container offset ∷ later) defined = AreDefinedIn page (outer ++ past_first_line container ∷ []) later defined
AreDefinedIn page outer (ends ∷ later) defined = AreDefinedIn page (after_end outer) later defined
AreDefinedIn page outer (leaf block ∷ later) defined =
    (here : List Defined) × (rest : List Defined) × IsDefinedBy page outer block here × AreDefinedIn page outer later rest
    × (defined ≡ here ++ rest)

-- These are the definitions of a page that is read with this setting.
pub record AreDefinitionsIn (page : List ℕ) (setting : Extensions) (defined : List Defined) : Type 0 where
  pub events : List Event
  pub are_events : IsEventsOf (built setting) page events
  pub are_defined : AreDefinedIn page [] events defined
