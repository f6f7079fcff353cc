use Rattle.std.proofs.Common.{sym}
use Rattle.markdown_scanners_tree.proofs.line.ItemLemmas.{item_allowed}
use Rattle.markdown_scanners_tree.proofs.line.LineStart.call_with_breaks.Goals as goal

pub returns-in-List-clause-step : goal.returns-in-List-clause-step
returns-in-List-clause-step c known =
    let none = item_allowed c.args.self.now.pending c.in-List.indent (rw c.in-List.is at (sym c.in_default.ensures)) in
    rw c.in-List.is (c.scan_list_marker_with_breaks-item.ensures.step known none)
