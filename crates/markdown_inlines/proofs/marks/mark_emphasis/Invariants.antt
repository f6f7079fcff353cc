use Rattle.std.proofs.Common.{ℕ, ◌≡◌, ◌≤◌, ◌<◌, length, drop, get_or}
use Rattle.markdown_inlines.specs.Marks.{marks_by}
use Rattle.markdown_inlines.specs.declared.marks.Mark.TheVariants.{Nothing}
use Rattle.markdown_inlines.proofs.marks.mark_emphasis.Given as goal

abbrev pub invariant-loop-index : goal.invariant-loop-index
invariant-loop-index l =
    ((k : ℕ) → k < length l.fn.marks → get_or l.marks k Nothing ≡ marks_by (drop l.index l.emphasis) k)
    × (length l.marks ≡ length l.fn.marks) × (l.index ≤ length l.emphasis)

abbrev pub decreases-loop-index : goal.decreases-loop-index
decreases-loop-index l = l.index
