-- Worked examples of line endings, blank lines and block quote markers, held against the definitions.
use Rattle.std.proofs.Common.{◌≡◌, [], ◌∷◌, refl, Some, None}
use Rattle.markdown_scanners_tree.specs.Bytes.{blank_line, line_length}
use Rattle.markdown_scanners_tree.specs.scanners.Lines.{next_line, IsBlockQuoteStart}

-- "a\rb\nc"
next_line-row : next_line (97 ∷ 13 ∷ 98 ∷ 10 ∷ 99 ∷ []) ≡ 4
next_line-row = refl

-- "a\r\nb", "a\rb", "\n\r", "a", ""
line_length-rows : (line_length (97 ∷ 13 ∷ 10 ∷ 98 ∷ []) ≡ 3) × (line_length (97 ∷ 13 ∷ 98 ∷ []) ≡ 2)
    × (line_length (10 ∷ 13 ∷ []) ≡ 1) × (line_length (97 ∷ []) ≡ 1) × (line_length [] ≡ 0)
line_length-rows = (refl, refl, refl, refl, refl)

-- "\r\r\n", a vertical tab and LF, "a"
blank_line-rows : (blank_line (13 ∷ 13 ∷ 10 ∷ []) ≡ Some 1) × (blank_line (11 ∷ 10 ∷ []) ≡ Some 2)
    × (blank_line (97 ∷ []) ≡ None)
blank_line-rows = (refl, refl, refl)

-- "> " and ">\t"
quote-row : IsBlockQuoteStart (62 ∷ 32 ∷ []) 2
quote-row = record { rest = 32 ∷ []; parts = refl; counted = refl }

quote_tab-row : IsBlockQuoteStart (62 ∷ 9 ∷ []) 1
quote_tab-row = record { rest = 9 ∷ []; parts = refl; counted = refl }
