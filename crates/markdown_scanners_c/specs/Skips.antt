-- What is left out of a text at the starts of its lines: a table in place of a handler.
-- (CommonMark 0.31.2, section 5, container blocks: the markers of containers are no part of a text over their lines)
use Rattle.std.specs.Prelude.{ℕ, Bool, true, List, [], ◌∷◌, ◌≡◌, ◌+◌, ◌-◌, ◌&&◌, ◌==◌, max, nat_le, nat_lt, length, take, drop, if◌then◌else◌}
use Rattle.std.specs.List.{list_all}
use Rattle.markdown_scanners_c.specs.Status.{ok, bad_skips}
use Rattle.markdown_scanners_c.specs.declared.skips.Skip.{Skip}

-- In a text of so many bytes the skips stand in order from an offset on: each begins there or later and ends in the text,
-- and the next one begins after its first byte, where it ends or later.
abbrev pub stand_from : ℕ → ℕ → List Skip → Bool
stand_from from size [] = true
stand_from from size (skip ∷ skips) =
    nat_le from skip.offset && nat_le (skip.offset + skip.length) size
    && stand_from (skip.offset + max skip.length 1) size skips

-- the skips of a text
abbrev pub are_skips : List Skip → List ℕ → Bool
are_skips skips bytes = stand_from 0 (length bytes) skips

-- how many bytes are left out at an offset: as many as the skip of that offset says, and else none
abbrev pub left_out : List Skip → ℕ → ℕ
left_out [] offset = 0
left_out (skip ∷ skips) offset = if skip.offset == offset then skip.length else left_out skips offset

-- So many bytes are left out at the front of a rest of the text, whose offset is the text's length less its own.
abbrev pub LeavesOut : List Skip → List ℕ → List ℕ → ℕ → Type 0
LeavesOut skips bytes rest skip = skip ≡ left_out skips (length bytes - length rest)

-- so many bytes are there at the front, and they are ASCII
abbrev pub is_ascii_front : List ℕ → ℕ → Bool
is_ascii_front rest count = nat_le count (length rest) && list_all (λ b. nat_lt b 128) (take count rest)

-- each skip leaves out ASCII alone, as the markers of containers and spaces are
abbrev pub are_ascii_skips : List Skip → List ℕ → Bool
are_ascii_skips skips bytes = list_all (λ skip. is_ascii_front (drop skip.offset bytes) skip.length) skips

-- whether a table is one of the bytes, as a status
abbrev pub skips_status : List Skip → List ℕ → ℕ
skips_status skips bytes = if are_skips skips bytes && are_ascii_skips skips bytes then ok else bad_skips
