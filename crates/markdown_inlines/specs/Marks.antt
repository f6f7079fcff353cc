-- What begins and ends at each byte of a text, by its emphasis, and where links end.
use Rattle.std.specs.Prelude.{ℕ, Bool, false, ◌==◌, ◌&&◌, ◌||◌, ◌+◌, ◌<◌, List, [], ◌∷◌, ◌≡◌, length, get_or, Option, Some, None, if◌then◌else◌}
use Rattle.std.specs.List.{list_any}
use Rattle.markdown_scanners_tree.specs.Ascii.{tilde}
use Rattle.markdown_inlines.specs.declared.emphasis.Emphasis.{Emphasis}
use Rattle.markdown_inlines.specs.declared.links.Link.{Link}
use Rattle.markdown_inlines.specs.declared.marks.Mark.{Mark}
use Rattle.markdown_inlines.specs.declared.marks.Mark.TheVariants as M

-- the marks of the first delimiter on each side: of strikethrough, of strong emphasis, which has two, or of emphasis
abbrev pub opening_mark : Emphasis → Mark
opening_mark emphasis =
    if emphasis.byte == tilde then (if emphasis.count == 2 then M.OpensStrikethroughOfTwo else M.OpensStrikethrough)
    else if emphasis.count == 2 then M.OpensStrong
    else M.OpensEmphasis

abbrev pub closing_mark : Emphasis → Mark
closing_mark emphasis =
    if emphasis.byte == tilde then (if emphasis.count == 2 then M.ClosesStrikethroughOfTwo else M.ClosesStrikethrough)
    else if emphasis.count == 2 then M.ClosesStrong
    else M.ClosesEmphasis

-- the mark at an offset by emphasis, which has one delimiter on each side, or two; where it has none there, another
abbrev pub mark_by : Emphasis → ℕ → Mark → Mark
mark_by emphasis offset other =
    if offset == emphasis.opening then opening_mark emphasis
    else if offset == emphasis.closing then closing_mark emphasis
    else if emphasis.count == 2 && (offset == emphasis.opening + 1 || offset == emphasis.closing + 1) then M.Second
    else other

abbrev pub marks_by : List Emphasis → ℕ → Mark
marks_by [] offset = M.Nothing
marks_by (emphasis ∷ more) offset = mark_by emphasis offset (marks_by more offset)

-- These are the marks of the bytes of a text of a length.
pub record AreMarks (emphasis : List Emphasis) (len : ℕ) (marks : List Mark) : Type 0 where
  pub counted : length marks ≡ len
  pub each : (offset : ℕ) → offset < len → get_or marks offset M.Nothing ≡ marks_by emphasis offset

-- the link text of a link ends at an offset
abbrev pub ends_at : ℕ → Option Link → Bool
ends_at offset None = false
ends_at offset (Some link) = offset == link.text.end

abbrev pub ends_link : List (Option Link) → ℕ → Bool
ends_link links offset = list_any (ends_at offset) links
