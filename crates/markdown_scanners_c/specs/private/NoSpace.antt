-- Places at which no space stands. (CommonMark 0.31.2, section 2.2, tabs)
use Rattle.std.specs.Prelude.{ℕ, ◌≡◌}
use Rattle.markdown_scanners_tree.specs.line.State.{LineState, after_space, space_within}

-- There is no column of space to take, however many are asked for.
abbrev pub HasNoSpace : LineState → Type 0
HasNoSpace s = (n : ℕ) → (space_within n s ≡ 0) × (after_space n s ≡ s)
