-- Insecure characters. (CommonMark 0.31.2, section 2.3)
use Rattle.std.specs.Prelude.{ℕ, zero, suc, List, [], ◌∷◌}

-- "For security reasons, the Unicode character U+0000 must be replaced with the REPLACEMENT CHARACTER (U+FFFD)." In UTF-8 the one is the
-- byte 0, which stands in no other character, and the other has three bytes.
abbrev pub replace_nul : List ℕ → List ℕ
replace_nul [] = []
replace_nul (zero ∷ text) = 239 ∷ 191 ∷ 189 ∷ replace_nul text
replace_nul (suc b ∷ text) = suc b ∷ replace_nul text
