use Rattle.std.proofs.Common.{◌≡◌, ◌≤◌, ◌+◌, ℕ, true, false, sym, ap, ◌∙◌, length, drop, arith, None, Some}
use Rattle.std.proofs.lemmas.List.{length-drop}
use Rattle.markdown_scanners_tree.specs.line.Outcome.{Outcome, further_spaces, item_outcome_by, space_or_end_follows}
use Rattle.markdown_scanners_tree.specs.line.State.{LineState, unscanned, rest_of, bytes_further, space_within, after_space}
use Rattle.markdown_scanners_tree.specs.scanners.list_items.ListMarker.{Marker}
use Rattle.markdown_scanners_tree.proofs.line.ItemLemmas.{item-passed, item-kept, item_refused, item_step-bare, item_is_step}
use Rattle.markdown_scanners_tree.proofs.line.PlaceLemmas.{item_forward}
use Rattle.markdown_scanners_tree.proofs.line.LineStart.pass_list_marker.Goals as goal

-- neither a space nor the line's end follows the marker
module _ (c : goal.Then-not-scan_space_or_end) where
  abbrev kept : Marker
  kept = record { width = c.args.width; delimiter = c.args.delimiter; start = c.args.start }

  bare : space_or_end_follows (bytes_further c.args.width c.args.self.now) ≡ false
  bare = ap space_or_end_follows (sym c.pass_bytes.ensures) ∙ sym c.scan_space_or_end.ensures.answer
      ∙ c.if-not-scan_space_or_end.true

  no_outcome : item_outcome_by c.args.indent c.args.self.now (Some kept) ≡ record { answer = None; state = c.args.self.now }
  no_outcome = item-kept c.args.indent c.args.self.now kept bare

pub returns-then-not-scan_space_or_end-clause-answer : goal.returns-then-not-scan_space_or_end-clause-answer
returns-then-not-scan_space_or_end-clause-answer c = ap (λ (o : Outcome (ℕ × ℕ × ℕ)). o.answer) (sym (no_outcome c))

pub returns-then-not-scan_space_or_end-clause-state : goal.returns-then-not-scan_space_or_end-clause-state
returns-then-not-scan_space_or_end-clause-state c =
    c.copy-before.ensures ∙ ap (λ (o : Outcome (ℕ × ℕ × ℕ)). o.state) (sym (no_outcome c))

pub returns-then-not-scan_space_or_end-clause-step : goal.returns-then-not-scan_space_or_end-clause-step
returns-then-not-scan_space_or_end-clause-step c none small found is =
    let s = c.args.self.now in
    let inside : c.args.width ≤ length (unscanned s) = omega (arith, length-drop s.offset s.bytes, c.requires.inside) in
    rw c.copy-before.ensures
    (item_refused c.args.indent s small (item_step-bare s (kept c) small none found is inside c.args.indent (bare c)))

-- one of them does
module _ (c : goal.After-scan_marker_space-further) where
  abbrev marker : Marker
  marker = record { width = c.args.width; delimiter = c.args.delimiter; start = c.args.start }

  abbrev at : LineState
  at = bytes_further c.args.width c.args.self.now

  follows : space_or_end_follows at ≡ true
  follows = ap space_or_end_follows (sym c.pass_bytes.ensures) ∙ sym c.scan_space_or_end.ensures.answer
      ∙ c.if-not-scan_space_or_end.false

  after : c.scan_space_or_end.new.self ≡ after_space 1 at
  after = c.scan_space_or_end.ensures.state ∙ ap (after_space 1) c.pass_bytes.ensures

  counted : c.scan_marker_space-further.result ≡ further_spaces (after_space 1 at)
  counted = rw after at c.scan_marker_space-further.ensures.columns

outcome : (c : goal.After-scan_marker_space-further) → item_outcome_by c.args.indent c.args.self.now (Some (marker c))
    ≡ record {
      answer = Some (
        c.args.delimiter,
        c.args.start,
        c.args.indent + c.args.width + 1 + c.scan_marker_space-further.result,
      );
      state = after_space c.scan_marker_space-further.result (after_space 1 (at c));
    }
outcome c = item-passed c.args.indent c.scan_marker_space-further.result c.args.self.now (marker c) (follows c) (counted c)

pub returns-clause-answer : goal.returns-clause-answer
returns-clause-answer c = ap (λ (o : Outcome (ℕ × ℕ × ℕ)). o.answer) (sym (outcome c))

pub returns-clause-state : goal.returns-clause-state
returns-clause-state c =
    c.scan_marker_space-further.ensures.state ∙ ap (after_space c.scan_marker_space-further.result) (after c)
    ∙ ap (λ (o : Outcome (ℕ × ℕ × ℕ)). o.state) (sym (outcome c))

pub returns-clause-forward : goal.returns-clause-forward
returns-clause-forward c =
    rw (returns-clause-state c) (item_forward c.args.indent c.args.self.now (Some (marker c)))

pub returns-clause-step : goal.returns-clause-step
returns-clause-step c none small found is =
    let s = c.args.self.now in
    let further = c.scan_marker_space-further.result in
    let inside : c.args.width ≤ length (unscanned s) = omega (arith, length-drop s.offset s.bytes, c.requires.inside) in
    let rest : rest_of (after_space 1 (at c)) ≡ drop (space_within 1 (at c)) (rest_of (at c)) =
    ap rest_of (sym (after c)) ∙ c.scan_space_or_end.ensures.rest
    ∙ ap (λ x. drop (space_within 1 x) (rest_of x)) c.pass_bytes.ensures in
    item_is_step s (marker c) small none found is inside
    c.args.indent further c.scan_marker_space-further.new.self (follows c) rest (counted c)
    (c.scan_marker_space-further.ensures.state ∙ ap (after_space further) (after c))
    (c.scan_marker_space-further.ensures.rest ∙ ap (λ x. drop further (rest_of x)) (after c))
