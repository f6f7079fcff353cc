use Rattle.std.proofs.Common.{false, map, string_bytes}
use Rattle.page_tables.specs.Marks.{mark_view}
use Rattle.page_tables.proofs.SettledLemmas.{made_again, made_formatted}
use Rattle.page_tables.proofs.SizeLemmas.{formatted_bounded}
use Rattle.page_tables.proofs.formatted.formatted.Goals as goal

pub returns-in-Becomes-clause-again : goal.returns-in-Becomes-clause-again
returns-in-Becomes-clause-again g c = λ other next.
    let made = rw c.in-Becomes.is at (rw c.deref.ensures.value at c.in_ok-text.ensures.made) in
    made_again (g.W.CellWidths.width c.args.widths.now) c.args.page.now (map mark_view c.in_ok-marks.marks.items) c.in_ok-marks.ensures
    (string_bytes c.in-Becomes.text) other made next

pub returns-in-Becomes-clause-bounded : goal.returns-in-Becomes-clause-bounded
returns-in-Becomes-clause-bounded g c =
    let made = rw c.in-Becomes.is at (rw c.deref.ensures.value at c.in_ok-text.ensures.made) in
    let width = g.W.CellWidths.width c.args.widths.now in
    let text = string_bytes c.in-Becomes.text in
    formatted_bounded width c.args.page.now text
    (made_formatted width c.args.page.now (map mark_view c.in_ok-marks.marks.items) c.in_ok-marks.ensures text false made)
