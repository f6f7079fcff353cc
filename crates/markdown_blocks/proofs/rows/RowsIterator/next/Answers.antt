use Rattle.std.proofs.Common.{◌≡◌, ◌∷◌, ◌++◌, None, length, drop, arith, sym, ap, ◌∙◌}
use Rattle.markdown_scanners_tree.specs.scanners.TextLines.{lines_of}
use Rattle.markdown_blocks.specs.rows.Rows.{first_row, later_rows, row_at, seen_row}
use Rattle.markdown_blocks.proofs.rows.RowLemmas.{row_next}
use Rattle.markdown_blocks.proofs.rows.RowsIterator.next.Goals as goal

pub returns-clause-steps : goal.returns-clause-steps
returns-clause-steps c =
    let s = c.self.inside in
    let outer = s.outer.containers in
    let left = later_rows outer c.in_ok-line.more.bytes (lines_of (drop c.in_ok-line.more.bytes s.lines.now)) in
    let head : s.head ≡ None = sym c.take.ensures.value ∙ c.in-None.is in
    rw (← c.self.view_is)
    (ap (λ h. first_row h ++ later_rows outer s.read.bytes (lines_of (drop s.read.bytes s.lines.now))) head
    ∙ row_next s.lines.now s.read c.in_ok-line.more c.in_ok-line.line.now c.in_ok-line.ensures.line outer
    ∙ ap (λ r. r ∷ left) (sym (c.row_at-row.ensures ∙ ap (row_at s.read.bytes) c.go_on-start.ensures.state))
    ∙ ap (λ h. seen_row c.row_at-row.result ∷ (first_row h ++ left)) (sym c.take.ensures.after))

pub returns-clause-goes : goal.returns-clause-goes
returns-clause-goes c = record {
  on = λ _. (tt, tt, omega (arith, ap length (returns-clause-steps c)));
  keeps = tt;
  rests = λ _. tt;
}
