-- Worked examples of the units of a text, held against the definitions.
use Rattle.std.proofs.Common.{◌≡◌, [], ◌∷◌, refl}
use Rattle.std.specs.Prelude.{codes}
use Rattle.markdown_scanners_tree.specs.scanners.Escapes.{units}

-- `<a\>b>c` after its `<`: a, an escaped `>`, b, `>`, c
units_row : units (codes "a\\>b>c") ≡ codes "a" ∷ codes "\\>" ∷ codes "b" ∷ codes ">" ∷ codes "c" ∷ []
units_row = refl
