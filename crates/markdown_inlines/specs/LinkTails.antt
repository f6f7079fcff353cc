-- What follows the text of an inline link or image. (CommonMark 0.31.2, section 6.3, links)
use Rattle.std.specs.Prelude.{ℕ, ◌+◌, ◌≤◌, List, ◌∷◌, ◌++◌, ◌≡◌, ◌⊎◌, length, drop, Option, Some, None}
use Rattle.std.specs.declared.ops.Range.{Range}
use Rattle.markdown_scanners_tree.specs.Ascii.{left_parenthesis, right_parenthesis}
use Rattle.markdown_scanners_tree.specs.scanners.links.LinkDestination.{IsLinkDestination}
use Rattle.markdown_scanners_tree.specs.scanners.reference_definitions.ReferenceDefinition.{IsGap, IsSeparatedTitle, bracket_count}
use Rattle.markdown_inlines.specs.declared.link_tails.LinkTail.{LinkTail}

-- A gap, which may be empty, and a right parenthesis, n bytes together.
pub record IsClosing (text : List ℕ) (n : ℕ) : Type 0 where
  pub gap : List ℕ
  pub rest : List ℕ
  pub parts : text ≡ gap ++ right_parenthesis ∷ rest
  pub is_gap : IsGap gap
  pub counted : n ≡ length gap + 1

-- From the offset on stand a gap, a link title, and what closes the tail: `len` bytes of the text up to there.
pub record IsTitledEnd (text : List ℕ) (offset : ℕ) (title : Range ℕ) (len : ℕ) : Type 0 where
  pub closing : ℕ
  pub is_titled : IsSeparatedTitle text offset title
  pub closes : IsClosing (drop (title.end + 1) text) closing
  pub len_is : len ≡ title.end + 1 + closing

-- What closes the tail stands at the offset: `len` bytes of the text up to there.
pub record IsUntitledEnd (text : List ℕ) (offset len : ℕ) : Type 0 where
  pub closing : ℕ
  pub closes : IsClosing (drop offset text) closing
  pub len_is : len ≡ offset + closing

-- how a tail ends whose destination ends at the offset
abbrev pub IsTailEnd : List ℕ → ℕ → Option (Range ℕ) → ℕ → Type 0
IsTailEnd text offset (Some title) len = IsTitledEnd text offset title len
IsTailEnd text offset None len = IsUntitledEnd text offset len

-- Neither a destination nor a title stands between the parentheses. Its destination has no byte.
pub record IsEmptyTail (text : List ℕ) (tail : LinkTail) : Type 0 where
  pub after : List ℕ
  pub closing : ℕ
  pub opens : text ≡ left_parenthesis ∷ after
  pub closes : IsClosing after closing
  pub untitled : tail.title ≡ None
  pub len_is : tail.len ≡ closing + 1
  pub destination_begins : tail.destination.start ≡ closing
  pub destination_ends : tail.destination.end ≡ closing

-- A link destination stands between the parentheses after a gap, and a title may follow. It may be `<>`, but not
-- without any byte: no title stands alone, since it is read as a destination where it can be.
pub record IsFilledTail (most : ℕ) (text : List ℕ) (tail : LinkTail) : Type 0 where
  pub after : List ℕ
  pub gap : List ℕ
  pub rest : List ℕ
  pub taken : ℕ
  pub raw : List ℕ
  pub opens : text ≡ left_parenthesis ∷ after
  pub parts : after ≡ gap ++ rest
  pub is_gap : IsGap gap
  pub is_destination : IsLinkDestination most rest taken raw
  pub some : 1 ≤ taken
  pub destination_begins : tail.destination.start ≡ 1 + length gap + bracket_count rest
  pub destination_ends : tail.destination.end + bracket_count rest ≡ 1 + length gap + taken
  pub ends : IsTailEnd text (1 + length gap + taken) tail.title tail.len

-- The tail of an inline link stands at the front of the text, which follows the link text directly: a left parenthesis,
-- an optional link destination, an optional link title, and a right parenthesis, with gaps between them.
abbrev pub IsLinkTail : ℕ → List ℕ → LinkTail → Type 0
IsLinkTail most text tail = IsEmptyTail text tail ⊎ IsFilledTail most text tail
