-- Worked instances of the lines of a text.
use Rattle.std.proofs.Common.{[], ◌∷◌, ◌++◌, ◌≡◌, refl, codes}
use Rattle.markdown_scanners_tree.specs.Ascii.{line_feed, carriage_return}
use Rattle.markdown_scanners_tree.specs.scanners.TextLines.{lines_of}

no_lines : lines_of [] ≡ []
no_lines = refl

last_without_ending : lines_of (codes "a" ++ line_feed ∷ codes "b")
    ≡ (codes "a" ++ line_feed ∷ []) ∷ codes "b" ∷ []
last_without_ending = refl

three_endings : lines_of (carriage_return ∷ carriage_return ∷ line_feed ∷ line_feed ∷ [])
    ≡ (carriage_return ∷ []) ∷ (carriage_return ∷ line_feed ∷ []) ∷ (line_feed ∷ []) ∷ []
three_endings = refl
