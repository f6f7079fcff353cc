-- Parts of lines, as the code has them.
use Rattle.std.specs.Prelude.{ℕ, ◌+◌, ◌≤◌, ◌≡◌, List, ◌++◌, length, drop, Option}
use Rattle.std.specs.Option.{ForSome}
use Rattle.markdown_blocks.specs.content.Parts.{Part}
use Rattle.markdown_blocks.specs.declared.content.parts.LinePart.{LinePart}

abbrev pub seen_part : LinePart → Part
seen_part p = record { columns = p.columns; filler = p.filler; offset = p.offset; bytes = p.bytes.now }

-- the part's bytes stand in the lines at its offset
abbrev pub IsIn : List ℕ → Part → Type 0
IsIn lines p =
    (p.offset + length p.bytes ≤ length lines)
    × (drop p.offset lines ≡ p.bytes ++ drop (p.offset + length p.bytes) lines)

abbrev pub IsFirstIn : List ℕ → Option LinePart → Type 0
IsFirstIn lines first = ForSome first (λ p. IsIn lines (seen_part p))
