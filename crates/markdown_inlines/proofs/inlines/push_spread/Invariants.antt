use Rattle.std.proofs.Common.{◌≡◌, ◌++◌, drop, length, List}
use Rattle.std.specs.List.{flat_map}
use Rattle.markdown_inlines.specs.Marks.{AreMarks}
use Rattle.markdown_inlines.specs.Written.{spread}
use Rattle.markdown_inlines.specs.declared.emphasis.Emphasis.{Emphasis}
use Rattle.markdown_inlines.proofs.inlines.push_spread.Given as goal

abbrev pub invariant-loop-inline : goal.invariant-loop-inline
invariant-loop-inline l =
    (emphasis : List Emphasis) → AreMarks emphasis (length l.marks) l.marks
    → l.out.items ++ flat_map (spread emphasis) (drop l.inline-index l.inlines)
    ≡ l.fn.out.items ++ flat_map (spread emphasis) l.inlines
