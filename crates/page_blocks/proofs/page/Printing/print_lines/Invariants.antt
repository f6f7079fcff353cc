use Rattle.std.proofs.Common.{List, ℕ, [], ◌+◌, ◌-◌, ◌++◌, ◌≡◌, ◌≤◌, IsTrue, length, drop}
use Rattle.markdown_scanners_tree.specs.scanners.TextLines.{lines_of}
use Rattle.page_blocks.specs.Going.{Prints}
use Rattle.page_blocks.proofs.page.Printing.print_lines.Given as goal

-- the lines are printed as far as the offset
abbrev pub invariant-loop-more : goal.invariant-loop-more
invariant-loop-more l =
    ((more : List (List ℕ)) → (IsTrue l.has_ended → more ≡ [])
    → Prints l.fn.self (lines_of l.lines ++ more) l.self (lines_of (drop l.count l.lines) ++ more))
    × (l.count ≤ length l.lines) × (l.self.printer.at.lines ≤ l.fn.self.printer.at.lines + l.count)
    × (l.self.printer.at.bytes ≡ l.fn.self.printer.at.bytes + l.count) × (l.self.printer.form ≡ l.fn.self.printer.form)
    × (l.self.walk.extensions ≡ l.fn.self.walk.extensions)

abbrev pub decreases-loop-more : goal.decreases-loop-more
decreases-loop-more l = length l.lines - l.count
