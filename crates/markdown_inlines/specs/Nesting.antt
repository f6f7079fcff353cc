-- The inlines of a text nest, and stand one after another. (CommonMark 0.31.2, chapter 6; GitHub Flavored Markdown
-- 0.29, section 6.5)
use Rattle.std.specs.Prelude.{ℕ, ◌+◌, List, [], ◌∷◌, ◌≡◌, Option, Some, slice_get}
use Rattle.markdown_inlines.specs.declared.inlines.Inline.{Inline}
use Rattle.markdown_inlines.specs.declared.inlines.Inline.TheVariants as I
use Rattle.markdown_inlines.specs.declared.links.Link.{Link}

-- An end ends what began so: emphasis or strikethrough with as many delimiters, or the link that this opener begins.
abbrev pub EndsIt : List (Option Link) → Inline → Inline → Type 0
EndsIt links (I.StartEmphasis offset count) (I.EndEmphasis offset' count') = count' ≡ count
EndsIt links (I.StartStrikethrough offset count) (I.EndStrikethrough offset' count') = count' ≡ count
EndsIt links (I.StartLink number) (I.EndLink piece) =
    (link : Link) × (slice_get links number ≡ Some (Some link))
    × (piece.start ≡ link.text.end) × (piece.end ≡ link.source.end)
EndsIt links start end = ⊥

-- With these starts open, the innermost first, a leaf changes nothing, a start is open up to its end, and an end ends the innermost.
-- After the last of the inlines none is open.
abbrev pub AreNestedIn : List (Option Link) → List Inline → List Inline → Type 0
AreNestedIn links starts [] = starts ≡ []
AreNestedIn links starts (I.Leaf piece ∷ later) = AreNestedIn links starts later
AreNestedIn links starts (I.StartEmphasis offset count ∷ later) = AreNestedIn links (I.StartEmphasis offset count ∷ starts) later
AreNestedIn links starts (I.StartStrikethrough offset count ∷ later) = AreNestedIn links (I.StartStrikethrough offset count ∷ starts) later
AreNestedIn links starts (I.StartLink number ∷ later) = AreNestedIn links (I.StartLink number ∷ starts) later
AreNestedIn links starts (end ∷ later) =
    (start : Inline) × (outer : List Inline) × (starts ≡ start ∷ outer) × EndsIt links start end × AreNestedIn links outer later

abbrev pub Nest : List (Option Link) → List Inline → Type 0
Nest links inlines = AreNestedIn links [] inlines

-- An inline stands from one offset to another: a start or an end of emphasis or strikethrough is its delimiters, the start of a link
-- is its opener.
abbrev pub StandsAt : List (Option Link) → Inline → ℕ → ℕ → Type 0
StandsAt links (I.Leaf piece) from to = (piece.start ≡ from) × (piece.end ≡ to)
StandsAt links (I.StartEmphasis offset count) from to = (offset ≡ from) × (offset + count ≡ to)
StandsAt links (I.EndEmphasis offset count) from to = (offset ≡ from) × (offset + count ≡ to)
StandsAt links (I.StartStrikethrough offset count) from to = (offset ≡ from) × (offset + count ≡ to)
StandsAt links (I.EndStrikethrough offset count) from to = (offset ≡ from) × (offset + count ≡ to)
StandsAt links (I.StartLink number) from to =
    (link : Link) × (slice_get links number ≡ Some (Some link)) × (link.source.start ≡ from) × (link.text.start ≡ to)
StandsAt links (I.EndLink piece) from to = (piece.start ≡ from) × (piece.end ≡ to)

-- They stand from one offset to another, each where the one before it ends.
abbrev pub StandFrom : List (Option Link) → ℕ → List Inline → ℕ → Type 0
StandFrom links from [] last = from ≡ last
StandFrom links from (inline ∷ later) last = (to : ℕ) × StandsAt links inline from to × StandFrom links to later last
