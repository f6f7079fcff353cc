use Rattle.std.proofs.Common.{ℕ, ◌≡◌, ◌<◌, ◌≤◌, get_or, length}
use Rattle.markdown_inlines.proofs.piece_scanner.trimmed_len.Given as goal

-- What has been passed over are spaces.
abbrev pub invariant-loop-len : goal.invariant-loop-len
invariant-loop-len l =
    (l.len ≤ length l.bytes) × ((k : ℕ) → l.len ≤ k → k < length l.bytes → get_or l.bytes k 0 ≡ 32)

abbrev pub decreases-loop-len : goal.decreases-loop-len
decreases-loop-len l = l.len
