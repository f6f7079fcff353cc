use Rattle.std.proofs.Common.{◌≡◌, ◌≤◌, ◌<◌, Some, None, take, arith}
use Rattle.markdown_scanners_tree.specs.line.State.{unscanned}
use Rattle.markdown_scanners_tree.specs.scanners.list_items.ListItem.{IsListMarker}
use Rattle.markdown_scanners_tree.specs.scanners.list_items.ListMarker.{Marker, list_marker}
use Rattle.markdown_scanners_tree.proofs.line.ItemLemmas.{item_refused, item_step-none}
use Rattle.markdown_scanners_tree.proofs.line.LineStart.scan_list_marker_with_breaks.Goals as goal

pub returns-in_err-width-clause-truth : goal.returns-in_err-width-clause-truth
returns-in_err-width-clause-truth c =
    rw (← c.self.view_is) (λ known. c.marker_at.ensures.truth known c.self.inside.offset (omega arith))

pub returns-in_err-width-clause-step : goal.returns-in_err-width-clause-step
returns-in_err-width-clause-step c known none =
    let s = c.args.self.now in
    let small : s.phase < 4 = rw (← c.self.view_is) (omega arith) in
    let absent : list_marker (unscanned s) ≡ None =
    rw (← c.self.view_is) (c.in_err-width.ensures.none (rw (← c.self.view_is) at known)) in
    rw (c.from_residual.ensures)
    (item_refused c.args.indent s small (item_step-none c.args.indent s none absent))

pub returns-clause-truth : goal.returns-clause-truth
returns-clause-truth c known =
    let forward : c.self.inside.offset ≤ c.pass_list_marker.new.self.offset =
    rw (← c.self.view_is) at c.pass_list_marker.ensures.forward in
    rw (c.pass_list_marker.ensures.bytes, ← c.self.view_is)
    (c.marker_at.ensures.truth (rw (← c.self.view_is) at known) c.pass_list_marker.new.self.offset forward)

pub returns-clause-step : goal.returns-clause-step
returns-clause-step c known none =
    let s = c.args.self.now in
    let m : Marker =
    record { width = c.in_ok-width.width; delimiter = c.in_ok-width.delimiter; start = c.in_ok-width.start } in
    let small : s.phase < 4 = rw (← c.self.view_is) (omega arith) in
    let found : list_marker (unscanned s) ≡ Some m =
    rw (← c.self.view_is) (c.in_ok-width.ensures.found (rw (← c.self.view_is) at known)) in
    let is : IsListMarker (take m.width (unscanned s)) m.delimiter m.start =
    rw (← c.self.view_is) c.in_ok-width.ensures.marker in
    c.pass_list_marker.ensures.step none small found is
