-- All tables say the same where those do that are left.
use Rattle.std.proofs.Common.{◌≡◌, ◌↔◌, length, map}
use Rattle.page_tables.specs.Formatted.{seen_from, seen_tables}
use Rattle.page_tables.specs.Marks.{mark_view}
use Rattle.page_tables.proofs.same.are_same.Given as goal

abbrev pub invariant-loop-left : goal.invariant-loop-left
invariant-loop-left l =
    (seen_from l.page l.columns (map mark_view l.left) ≡ seen_from l.other l.columns (map mark_view l.right))
    ↔ (seen_tables l.page (map mark_view l.marks) ≡ seen_tables l.other (map mark_view l.others))

abbrev pub decreases-loop-left : goal.decreases-loop-left
decreases-loop-left l = length l.left
