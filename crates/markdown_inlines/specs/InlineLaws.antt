-- What holds of a text cut into its inlines, without the procedure that cuts it. (CommonMark 0.31.2, section 6.3;
-- GitHub Flavored Markdown 0.29, section 6.5)
use Rattle.std.specs.Prelude.{ℕ, false, List, ◌≡◌, ◌⊎◌, ◌≤◌, Option, Some, slice_get, IfSome}
use Rattle.std.specs.List.{AllByRecursion}
use Rattle.std.specs.declared.ops.Range.{Range}
use Rattle.markdown_scanners_tree.specs.Ascii.{tilde}
use Rattle.markdown_inlines.specs.declared.emphasis.Emphasis.{Emphasis}
use Rattle.markdown_inlines.specs.declared.links.Link.{Link}
use Rattle.markdown_inlines.specs.declared.links.LinkTarget.TheVariants.{Wiki}

-- the opener of this number begins this link, which is no image
abbrev pub IsLinkOf : List (Option Link) → ℕ → Link → Type 0
IsLinkOf links number link = (slice_get links number ≡ Some (Some link)) × (link.is_image ≡ false)

-- one ends before the other begins
abbrev pub StandApart : Link → Link → Type 0
StandApart a b = (a.source.end ≤ b.source.start) ⊎ (b.source.end ≤ a.source.start)

-- Links may not contain other links, at any level of nesting.
abbrev pub HoldNoLinks : List (Option Link) → Type 0
HoldNoLinks links = (m n : ℕ) (a b : Link) → ¬ (m ≡ n) → IsLinkOf links m a → IsLinkOf links n b → StandApart a b

-- nothing is struck through
abbrev pub HasNoStrikethrough : List Emphasis → Type 0
HasNoStrikethrough emphasis = AllByRecursion (λ it. ¬ (it.byte ≡ tilde)) emphasis

-- none is a wikilink
abbrev pub HasNoWikilinks : List (Option Link) → Type 0
HasNoWikilinks links = AllByRecursion (λ (link : Option Link). IfSome link (λ l. (target : Range ℕ) → ¬ (l.target ≡ Wiki target))) links
