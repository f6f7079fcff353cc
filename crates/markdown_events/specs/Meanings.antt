-- What stands in a text, and what is meant by it.
use Rattle.std.specs.Prelude.{ℕ, Bool, false, not, ◌==◌, ◌+◌, ◌-◌, ◌≡◌, List, [], Option, Some, None, slice_range, option_map, if◌then◌else◌}
use Rattle.std.specs.declared.ops.Range.{Range}
use Rattle.html_entities.specs.Entities.{html_entity}
use Rattle.markdown_values.specs.values.Tags.{TagView, link, image}
use Rattle.markdown_values.specs.declared.values.LinkType.{LinkType}
use Rattle.markdown_values.specs.declared.values.LinkType.TheVariants as Kind
use Rattle.markdown_scanners_tree.specs.scanners.unescaping.Unescaping.{Piece as Part, ArePieces, joined_meanings}
use Rattle.markdown_inlines.specs.Links.{IsLabelAt}
use Rattle.markdown_inlines.specs.declared.links.Link.{Link}
use Rattle.markdown_inlines.specs.declared.links.LinkTarget.{LinkTarget}
use Rattle.markdown_inlines.specs.declared.links.LinkTarget.TheVariants.{Inline, Full, Collapsed, Shortcut, Wiki}
use Rattle.markdown_blocks.specs.link_definitions.LinkDefinitions.{Target}
use Rattle.markdown_events.specs.LineFeeds.{with_line_feeds}
use Rattle.markdown_events.specs.Targets.{Targets}

-- what stands in a range of a text
abbrev pub within : List ℕ → Range ℕ → List ℕ
within text range = slice_range text range.start range.end

-- A text means this, its backslash escapes and character references resolved. (2.4, 2.5)
pub record IsMeaning (text meaning : List ℕ) : Type 0 where
  pub parts : List Part
  pub are_parts : ArePieces false html_entity text parts
  pub meaning_is : meaning ≡ joined_meanings parts

-- What a title means, which may span several lines: each of its line endings is a line feed. (2.1, 6.3)
abbrev pub IsTitleMeaning : List ℕ → List ℕ → Type 0
IsTitleMeaning title meaning = IsMeaning (with_line_feeds title) meaning

-- what a title means, where there is one; else it is empty
abbrev pub IsTitle : Option (List ℕ) → List ℕ → Type 0
IsTitle None meaning = meaning ≡ []
IsTitle (Some title) meaning = IsTitleMeaning title meaning

-- what the title of a definition means, where it has one
abbrev pub IsDefinedTitle : Option (List ℕ) → Option (List ℕ) → Type 0
IsDefinedTitle None meaning = meaning ≡ None
IsDefinedTitle (Some title) meaning = (words : List ℕ) × IsTitleMeaning title words × (meaning ≡ Some words)

-- A label leads somewhere, and this is what is meant by the destination and the title there. (4.7)
pub record IsTargetMeaning (leads : Option Target) (meaning : Target) : Type 0 where
  pub written : Target
  pub is_written : leads ≡ Some written
  pub is_destination : IsMeaning written.destination meaning.destination
  pub is_title : IsDefinedTitle written.title meaning.title

-- Where a link with this link text leads, as it is written, and the label by which it does: by its own destination and title, which
-- have none, as has the target of a wikilink; by the label that follows it; or by its text. (6.3)
abbrev pub IsWrittenTarget : List ℕ → Targets → Range ℕ → LinkTarget → List ℕ → Target → Type 0
IsWrittenTarget text targets words (Inline destination title) label target =
    (label ≡ []) × (target ≡ record { destination = within text destination; title = option_map (within text) title })
IsWrittenTarget text targets words (Full range) label target =
    IsLabelAt text (range.start + 1) (range.end - 1) label × (targets label ≡ Some target)
IsWrittenTarget text targets words Collapsed label target = IsLabelAt text words.start words.end label × (targets label ≡ Some target)
IsWrittenTarget text targets words Shortcut label target = IsLabelAt text words.start words.end label × (targets label ≡ Some target)
IsWrittenTarget text targets words (Wiki range) label target =
    (label ≡ []) × (target ≡ record { destination = within text range; title = None })

-- what a destination means, of a wikilink as it is written
abbrev pub IsDestination : LinkTarget → List ℕ → List ℕ → Type 0
IsDestination (Wiki range) destination meaning = meaning ≡ destination
IsDestination target destination meaning = IsMeaning destination meaning

-- a pipe stands between the target of a wikilink and its link text
abbrev pub has_pipe : Range ℕ → Range ℕ → Bool
has_pipe words target = not (target.end == words.start)

-- how a link with this link text is written
abbrev pub link_type : Range ℕ → LinkTarget → LinkType
link_type words (Inline destination title) = Kind.Inline
link_type words (Full label) = Kind.Reference
link_type words Collapsed = Kind.Collapsed
link_type words Shortcut = Kind.Shortcut
link_type words (Wiki target) = Kind.WikiLink (has_pipe words target)

-- the tag of a link or of an image
abbrev pub link_or_image : Bool → LinkType → List ℕ → List ℕ → List ℕ → TagView (List ℕ)
link_or_image is_image kind destination title label =
    if is_image then image kind destination title label else link kind destination title label

-- This is the tag of a link: its destination and title are what is meant by them where it leads. (6.3, 6.4)
pub record IsLinkTag (text : List ℕ) (targets : Targets) (it : Link) (tag : TagView (List ℕ)) : Type 0 where
  pub label : List ℕ
  pub target : Target
  pub destination : List ℕ
  pub title : List ℕ
  pub leads : IsWrittenTarget text targets it.text it.target label target
  pub is_destination : IsDestination it.target target.destination destination
  pub is_title : IsTitle target.title title
  pub tag_is : tag ≡ link_or_image it.is_image (link_type it.text it.target) destination title label
