use Rattle.std.proofs.Common.{◌≡◌, ◌≢◌, ◌≤◌, ◌+◌, ◌-◌, length, get_or}
use Rattle.markdown_scanners_tree.specs.Ascii.{backtick}
use Rattle.markdown_inlines.specs.CodeSpans.{HasNone}
use Rattle.markdown_inlines.proofs.code_spans.find_string.Given as goal

-- No string of this length stands before the offset, and no backtick at it; what stands before it is passed over.
abbrev pub invariant-loop-start : goal.invariant-loop-start
invariant-loop-start l =
    (l.fence ≤ l.offset) × (l.offset ≤ length l.text) × HasNone l.text l.fence l.fence l.offset × (get_or l.text l.offset 0 ≢ backtick)
    × (l.passed + l.fence ≡ l.initial.passed + l.offset)

abbrev pub decreases-loop-start : goal.decreases-loop-start
decreases-loop-start l = length l.text - l.offset
