-- Links and images. (CommonMark 0.31.2, sections 6.3, links, and 6.4, images)
use Rattle.std.specs.Prelude.{ℕ, Bool, true, false, ◌+◌, List, ◌≡◌, drop, codes}
use Rattle.std.specs.Option.{option_map}
use Rattle.std.specs.declared.ops.Range.{Range}
use Rattle.memchr.specs.Find.{occurs_at}
use Rattle.markdown_scanners_tree.specs.NoSkips.{SkipsNothing}
use Rattle.markdown_scanners_tree.specs.linklabel.Label.{Label, IsLabel}
use Rattle.markdown_inlines.specs.LinkTails.{IsLinkTail}
use Rattle.markdown_inlines.specs.declared.link_tails.LinkTail.{LinkTail}
use Rattle.markdown_inlines.specs.declared.links.LinkTarget.{LinkTarget}
use Rattle.markdown_inlines.specs.declared.links.LinkTarget.TheVariants.{Inline, Full, Collapsed, Shortcut, Wiki}

-- of which labels a page has a definition
abbrev pub Known : Type 0
Known = List ℕ → Bool

-- the range so many bytes later
abbrev pub shifted : ℕ → Range ℕ → Range ℕ
shifted offset range = record { start = offset + range.start; end = offset + range.end }

-- where an inline link leads with this tail, which begins at an offset
abbrev pub inline_target : ℕ → LinkTail → LinkTarget
inline_target offset tail = Inline (shifted offset tail.destination) (option_map (shifted offset) tail.title)

-- how deep the parentheses of a destination may nest
abbrev pub most_parentheses : ℕ
most_parentheses = 32

-- A label with this text stands from an offset up to its right bracket.
pub record IsLabelAt (text : List ℕ) (from close : ℕ) (name : List ℕ) : Type 0 where
  pub label : Label
  pub is_label : IsLabel SkipsNothing (drop from text) false label
  pub closed : from + label.len ≡ close + 1
  pub named : name ≡ label.text

-- what stands there is a label that is defined
abbrev pub IsKnownLabel : List ℕ → Known → ℕ → ℕ → Type 0
IsKnownLabel text known from close = (name : List ℕ) × IsLabelAt text from close name × (known name ≡ true)

-- a label follows at an offset, up to its right bracket
abbrev pub IsLabelAfter : List ℕ → ℕ → ℕ → Type 0
IsLabelAfter text offset close = (occurs_at text (codes "[") offset ≡ true) × (name : List ℕ) × IsLabelAt text (offset + 1) close name

-- and is defined
abbrev pub IsKnownAfter : List ℕ → Known → ℕ → ℕ → Type 0
IsKnownAfter text known offset close = (occurs_at text (codes "[") offset ≡ true) × IsKnownLabel text known (offset + 1) close

-- the label that stands there, with its brackets, is defined
pub record IsFullLabel (text : List ℕ) (known : Known) (offset : ℕ) (label : Range ℕ) : Type 0 where
  pub bracket : ℕ
  pub known_after : IsKnownAfter text known offset bracket
  pub begins : label.start ≡ offset
  pub ends : label.end ≡ bracket + 1

-- No tail of an inline link follows, and no label.
abbrev pub HasNoTail : List ℕ → ℕ → Type 0
HasNoTail text offset = (tail : LinkTail) → ¬ IsLinkTail most_parentheses (drop offset text) tail

abbrev pub HasNoLabelAfter : List ℕ → ℕ → Type 0
HasNoLabelAfter text offset = (close : ℕ) → ¬ IsLabelAfter text offset close

-- A link text that stands from an offset up to a right bracket is that of an inline link, a full, a collapsed or a shortcut reference
-- link, in this order, which ends there.
abbrev pub IsTarget : List ℕ → Known → ℕ → ℕ → LinkTarget → ℕ → Type 0
IsTarget text known from close (Inline destination title) end =
    (tail : LinkTail) × IsLinkTail most_parentheses (drop (close + 1) text) tail
    × (Inline destination title ≡ inline_target (close + 1) tail) × (end ≡ close + 1 + tail.len)
IsTarget text known from close (Full label) end =
    HasNoTail text (close + 1) × IsFullLabel text known (close + 1) label × (end ≡ label.end)
IsTarget text known from close Collapsed end =
    HasNoTail text (close + 1) × HasNoLabelAfter text (close + 1) × (occurs_at text (codes "[]") (close + 1) ≡ true)
    × IsKnownLabel text known from close × (end ≡ close + 3)
IsTarget text known from close Shortcut end =
    HasNoTail text (close + 1) × HasNoLabelAfter text (close + 1) × (occurs_at text (codes "[]") (close + 1) ≡ false)
    × IsKnownLabel text known from close × (end ≡ close + 1)
IsTarget text known from close (Wiki target) end = ⊥
