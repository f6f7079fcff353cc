-- Text outside of containers: at the start of a line nothing is skipped.
-- (CommonMark 0.31.2, section 5, container blocks)
use Rattle.std.specs.Prelude.{ℕ, List, ◌≡◌}

-- a handler's answers, of which each is 0
abbrev pub SkipsNothing : List ℕ → ℕ → Type 0
SkipsNothing rest skip = skip ≡ 0
