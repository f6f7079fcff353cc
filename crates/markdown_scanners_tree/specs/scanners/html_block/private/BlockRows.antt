-- The search for a name among the rows of a table, and the bytes that the name is read from.
use Rattle.std.specs.Prelude.{ℕ, Bool, true, not, ◌&&◌, ◌==◌, List, [], ◌∷◌, map, if◌then◌else◌}
use Rattle.std.specs.Ordering.{nat_cmp, is_lt}
use Rattle.std.specs.Cmp.Lexicographic.{slice_cmp}
use denote.Ref.{Bor}
use Rattle.markdown_scanners_tree.specs.Ascii.{slash}

-- a row of a table, and all rows, as lists of bytes
abbrev pub text : Bor (List ℕ) → List ℕ
text row = row.now

abbrev pub texts : List (Bor (List ℕ)) → List (List ℕ)
texts = map text

-- no row comes before the one before it
abbrev pub rises : List (Bor (List ℕ)) → Bool
rises [] = true
rises (x ∷ []) = true
rises (x ∷ y ∷ rows) = not (is_lt (slice_cmp nat_cmp (text y) (text x))) && rises (y ∷ rows)

-- the bytes without a `/` at their front
abbrev pub after_slash : List ℕ → List ℕ
after_slash [] = []
after_slash (b ∷ bs) = if b == slash then bs else b ∷ bs
