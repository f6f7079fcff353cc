use Rattle.std.proofs.Common.{map}
use Rattle.std.proofs.lemmas.Result.{IfOk-weaker}
use Rattle.page_tables.specs.Looks.{is_left, made_text}
use Rattle.page_tables.specs.Marks.{mark_view}
use Rattle.page_tables.proofs.SettledLemmas.{made_formatted}
use Rattle.page_tables.proofs.changes.changes_of_page.Goals as goal

pub returns : goal.returns
returns g c =
    let page = c.args.page.now in
    let marks = map mark_view c.in_ok-marks.marks.items in
    let text = made_text page c.in_ok-made.made in
    IfOk-weaker c.changes_of.result _ _ (λ heads are. record {
      marks = marks;
      are_marks = c.in_ok-marks.ensures;
      text = text;
      is_formatted = made_formatted (g.W.CellWidths.width c.args.widths.now) page marks c.in_ok-marks.ensures text (is_left c.in_ok-made.made)
          (rw c.deref.ensures.value at c.in_ok-made.ensures.made);
      are_changes = are;
    }) (rw c.deref-2.ensures.value at c.changes_of.ensures)
