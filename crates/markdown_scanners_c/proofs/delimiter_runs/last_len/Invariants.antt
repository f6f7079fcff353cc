use Rattle.std.proofs.Common.{◌≡◌, ◌≤◌, ◌<◌, ℕ, false, ◌-◌, length, get_or}
use Rattle.markdown_scanners_c.specs.private.Sides.{begins_character}
use Rattle.markdown_scanners_c.proofs.delimiter_runs.last_len.Given as goal

abbrev pub invariant-loop-count : goal.invariant-loop-count
invariant-loop-count l = (k : ℕ) → 1 ≤ k → k < l.count → begins_character (get_or l.bytes (length l.bytes - k) 0) ≡ false
