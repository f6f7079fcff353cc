use Rattle.std.proofs.Common.{◌≡◌, ◌<◌, ℕ, sym, ap, subst, ◌∙◌, take, Some}
use Rattle.markdown_scanners_tree.specs.line.Outcome.{Outcome, item_outcome, item_outcome_by}
use Rattle.markdown_scanners_tree.specs.line.State.{LineState, unscanned}
use Rattle.markdown_scanners_tree.specs.scanners.list_items.ListItem.{IsListMarker}
use Rattle.markdown_scanners_tree.specs.scanners.list_items.ListMarker.{Marker, list_marker}
use Rattle.markdown_scanners_tree.proofs.line.ItemLemmas.{item_refused, item_step-none}
use Rattle.markdown_scanners_tree.proofs.line.LineStart.scan_list_marker_with_indent.Goals as goal

pub returns-in_err-width-clause-step : goal.returns-in_err-width-clause-step
returns-in_err-width-clause-step c none =
    let s = c.args.self.now in
    rw (c.from_residual.ensures, c.list_marker.ensures.state)
    (item_refused c.args.indent s c.list_marker.ensures.phase
    (item_step-none c.args.indent s none c.in_err-width.ensures.none))

-- the marker at the offset
abbrev marker : (c : goal.After-pass_list_marker) → Marker
marker c = record { width = c.in_ok-width.width; delimiter = c.in_ok-width.delimiter; start = c.in_ok-width.start }

outcome : (c : goal.After-pass_list_marker) → item_outcome_by c.args.indent c.list_marker.new.self (Some (marker c))
    ≡ item_outcome c.args.indent c.args.self.now
outcome c =
    ap (λ s. item_outcome_by c.args.indent s (Some (marker c))) c.list_marker.ensures.state
    ∙ ap (item_outcome_by c.args.indent c.args.self.now) (sym c.in_ok-width.ensures.found)

pub returns-clause-answer : goal.returns-clause-answer
returns-clause-answer c =
    c.pass_list_marker.ensures.answer ∙ ap (λ (o : Outcome (ℕ × ℕ × ℕ)). o.answer) (outcome c)

pub returns-clause-state : goal.returns-clause-state
returns-clause-state c =
    c.pass_list_marker.ensures.state ∙ ap (λ (o : Outcome (ℕ × ℕ × ℕ)). o.state) (outcome c)

pub returns-clause-step : goal.returns-clause-step
returns-clause-step c none =
    let state = c.list_marker.ensures.state in
    let m = marker c in
    let no_columns : c.list_marker.new.self.pending ≡ 0 = ap (λ (s : LineState). s.pending) state ∙ none in
    let small : c.list_marker.new.self.phase < 4 =
    subst (λ (s : LineState). s.phase < 4) (sym state) c.list_marker.ensures.phase in
    let found : list_marker (unscanned c.list_marker.new.self) ≡ Some m =
    ap (λ s. list_marker (unscanned s)) state ∙ c.in_ok-width.ensures.found in
    let is : IsListMarker (take m.width (unscanned c.list_marker.new.self)) m.delimiter m.start =
    subst (λ s. IsListMarker (take m.width (unscanned s)) m.delimiter m.start) (sym state) c.in_ok-width.ensures.marker in
    rw state at (c.pass_list_marker.ensures.step no_columns small found is)
