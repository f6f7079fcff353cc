-- What is known of the thematic breaks in a line. (CommonMark 0.31.2, section 4.1)
use Rattle.std.specs.Prelude.{ℕ, true, false, ◌||◌, ◌==◌, nat_lt, nat_le, ◌≡◌, ◌≤◌, ◌<◌, ◌+◌, List, length, drop, if◌then◌else◌}
use Rattle.markdown_scanners_tree.specs.Bytes.{begins_with}
use Rattle.markdown_scanners_tree.specs.scanners.Breaks.{is_thematic_break, break_length}
use Rattle.markdown_scanners_tree.specs.scanners.list_items.ListMarker.{is_bullet}
use Rattle.markdown_scanners_tree.specs.declared.line.known_breaks.KnownBreaks.{KnownBreaks}

-- It is true of the bytes from an offset on: no thematic break begins there or later before the one
-- number, and one begins just before the other.
abbrev pub AreTrueBreaks : List ℕ → KnownBreaks → ℕ → Type 0
AreTrueBreaks bytes known offset =
    ((k : ℕ) → offset ≤ k → k < known.none_before → is_thematic_break (drop k bytes) ≡ false)
    × ((k : ℕ) → known.after_break ≡ k + 1 → is_thematic_break (drop k bytes) ≡ true)

-- What is known once it was asked whether a thematic break begins at the offset. It stays where that
-- was known, or no byte stands there. Else a break that begins there is known, or how far the line can
-- be read as one: none begins before that.
abbrev pub learnt_at : List ℕ → ℕ → KnownBreaks → KnownBreaks
learnt_at bytes offset known =
    if nat_lt offset known.none_before || known.after_break == offset + 1 || nat_le (length bytes) offset
    then known
    else if is_thematic_break (drop offset bytes)
    then record known { after_break = offset + 1 }
    else record known { none_before = offset + break_length (drop offset bytes) }

-- the same of a list marker: only a bullet may begin a break
abbrev pub learnt_by_marker : List ℕ → ℕ → KnownBreaks → KnownBreaks
learnt_by_marker bytes offset known =
    if begins_with is_bullet (drop offset bytes) then learnt_at bytes offset known else known
