-- Names that a semicolon ends.
use Rattle.std.specs.Prelude.{ℕ, List, Option, Some, None, ◌+◌}
use Rattle.markdown_scanners_tree.specs.scanners.entities.CharacterReference.{Lookup, StartsWithReference}

-- What a scan for a name of n letters and digits answers: what the reference with this name means,
-- and None exactly where no reference stands at the front.
abbrev pub IsNameAnswer : Lookup → List ℕ → ℕ → Option (List ℕ) → Type 0
IsNameAnswer known bytes n (Some meaning) = StartsWithReference known bytes (n + 2) meaning
IsNameAnswer known bytes n None =
    (k : ℕ) (meaning : List ℕ) → ¬ StartsWithReference known bytes k meaning
