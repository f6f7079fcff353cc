use Rattle.std.proofs.Common.{◌≡◌, ◌<◌, ◌≤◌, ℕ, min, length, get_or}
use Rattle.markdown_inlines.proofs.emphasis.lower.Given as goal

abbrev pub invariant-loop-number : goal.invariant-loop-number
invariant-loop-number l =
    (length l.numbers ≡ 16)
    × ((k : ℕ) → k < l.number-index → get_or l.numbers k 0 ≡ min (get_or l.initial.numbers k 0) l.most)
    × ((k : ℕ) → l.number-index ≤ k → get_or l.numbers k 0 ≡ get_or l.initial.numbers k 0)
