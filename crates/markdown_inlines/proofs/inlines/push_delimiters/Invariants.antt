use Rattle.std.proofs.Common.{◌≡◌, ◌++◌, ◌≤◌, length, List}
use Rattle.markdown_inlines.specs.Marks.{AreMarks}
use Rattle.markdown_inlines.specs.Output.{delimiters_between}
use Rattle.markdown_inlines.specs.declared.emphasis.Emphasis.{Emphasis}
use Rattle.markdown_inlines.proofs.inlines.push_delimiters.Given as goal

abbrev pub invariant-loop-offset : goal.invariant-loop-offset
invariant-loop-offset l =
    ((emphasis : List Emphasis) → AreMarks emphasis (length l.marks) l.marks
    → l.inlines.items ≡ l.fn.inlines.items ++ delimiters_between emphasis l.from l.offset)
    × (l.from ≤ l.offset) × (l.offset ≤ l.to)
