use Rattle.std.proofs.Common.{◌≡◌, ◌≤◌, length, take, reverse}
use Rattle.markdown_inlines.specs.Emphasis.{nearest}
use Rattle.markdown_inlines.proofs.emphasis.find_opener.Given as goal

-- none of the inner openers fits
abbrev pub invariant-loop-index : goal.invariant-loop-index
invariant-loop-index l =
    (l.index ≤ length l.openers) × (l.passed ≤ l.index)
    × (nearest l.closer (reverse l.openers) ≡ nearest l.closer (reverse (take l.index l.openers)))

abbrev pub decreases-loop-index : goal.decreases-loop-index
decreases-loop-index l = l.index
