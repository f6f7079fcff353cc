-- What `unescape` prints. (CommonMark 0.31.2, sections 2.4 and 2.5)
use Rattle.std.specs.Prelude.{ℕ, false, ◌≡◌, ◌⊎◌, List}
use Rattle.std.specs.Str.{IsUtf8}
use Rattle.markdown_scanners_tree.specs.scanners.unescaping.Unescaping.{Piece, ArePieces, joined_meanings}
use Rattle.cmark_scan.specs.printing.Outcome.{Outcome, no_text}
use Rattle.cmark_scan.specs.unescaping.EntityTexts.{entity_text}

-- what pieces mean, joined
abbrev pub printed_meanings : List Piece → Outcome
printed_meanings pieces = record { printed = joined_meanings pieces; status = 0 }

-- what the pieces of the input mean, out of a table, or nothing and status 1 where it isn't UTF-8
abbrev pub IsUnescaped : List ℕ → Outcome → Type 0
IsUnescaped input outcome =
    (IsUtf8 input × ((pieces : List Piece)
    × ArePieces false entity_text input pieces × (outcome ≡ printed_meanings pieces)))
    ⊎ ((¬ IsUtf8 input) × (outcome ≡ no_text))
