use Rattle.std.proofs.Common.{ℕ, List, ◌-◌, ◌≤◌, ◌++◌, drop, length, string_bytes}
use Rattle.page_inlines.specs.Labels.{setting_of}
use Rattle.page_inlines.specs.Printed.{IsPrinted}
use Rattle.page_inlines.proofs.PageLemmas.{LeftText}
use Rattle.page_inlines.proofs.page.lines_of_page.Given as goal

-- whatever is printed of the blocks that are left, with it the page is printed
abbrev pub invariant-loop-content : goal.invariant-loop-content
invariant-loop-content l = record {
  within : l.bytes ≤ length l.page;
  few : l.lines ≤ l.bytes;
  goes : (later : List ℕ) → LeftText (setting_of l.printed) l.page l.lines l.bytes l.walk (drop l.bytes l.page) later
      → IsPrinted l.printed.asked l.page (string_bytes l.out.text ++ later);
}

abbrev pub decreases-loop-content : goal.decreases-loop-content
decreases-loop-content l = length l.page - l.bytes
