-- Worked examples of thematic breaks, held against the definitions.
use Rattle.std.proofs.Common.{◌≡◌, true, false, [], ◌∷◌, refl}
use Rattle.markdown_scanners_tree.specs.Bytes.{line_length}
use Rattle.markdown_scanners_tree.specs.scanners.Breaks.{break_length, is_thematic_break}

-- "* * *\n", "--", "- -x-", "- -\n"
break-rows : (is_thematic_break (42 ∷ 32 ∷ 42 ∷ 32 ∷ 42 ∷ 10 ∷ []) ≡ true)
    × (line_length (42 ∷ 32 ∷ 42 ∷ 32 ∷ 42 ∷ 10 ∷ []) ≡ 6) × (is_thematic_break (45 ∷ 45 ∷ []) ≡ false)
    × (break_length (45 ∷ 45 ∷ []) ≡ 0) × (break_length (45 ∷ 32 ∷ 45 ∷ 120 ∷ 45 ∷ []) ≡ 3)
    × (break_length (45 ∷ 32 ∷ 45 ∷ 10 ∷ []) ≡ 4)
break-rows = (refl, refl, refl, refl, refl, refl)
