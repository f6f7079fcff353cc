-- No call on a line start goes back, so what is known of the thematic breaks stays true.
use Rattle.std.proofs.Common.{ℕ, Bool, List, ◌≡◌, ◌≤◌, ◌==◌, Option, None, Some, refl, sym, subst, arith}
use Rattle.markdown_values.specs.declared.values.BlockQuoteKind.{BlockQuoteKind}
use Rattle.markdown_scanners_tree.specs.Ascii.{colon, greater_than_sign}
use Rattle.markdown_scanners_tree.specs.Bytes.{begins_with}
use Rattle.markdown_scanners_tree.specs.line.KnownBreaks.{AreTrueBreaks}
use Rattle.markdown_scanners_tree.specs.line.Outcome.{after_all_space, after_quote, alert_line, alert_outcome, definition_outcome, item_outcome_by, space_or_end_follows, task_box, task_outcome}
use Rattle.markdown_scanners_tree.specs.line.State.{LineState, after_space, bytes_further, unscanned}
use Rattle.markdown_scanners_tree.specs.scanners.list_items.ListMarker.{Marker}
use Rattle.markdown_scanners_tree.specs.declared.line.known_breaks.KnownBreaks.{KnownBreaks}
use Rattle.markdown_scanners_tree.proofs.line.ColumnLemmas.{bool_cases}

pub space_forward : (n : ℕ) (s : LineState) → s.offset ≤ (after_space n s).offset
space_forward n s = omega arith

pub taken_forward : (n : ℕ) (s after : LineState) → after ≡ after_space n s → s.offset ≤ after.offset
taken_forward n s after is = subst (λ (z : LineState). s.offset ≤ z.offset) (sym is) (space_forward n s)

pub all_space_forward : (s : LineState) → s.offset ≤ (after_all_space s).offset
all_space_forward s = omega arith

pub quote_forward : (s : LineState) → s.offset ≤ (after_quote s).offset
quote_forward s =
    bool_cases (begins_with (λ b. b == greater_than_sign) (unscanned s))
    (λ quote. rw quote (omega (arith, space_forward 1 (bytes_further 1 s))))
    (λ other. rw other (omega arith))

pub definition_forward : (indent : ℕ) (s : LineState) → s.offset ≤ (definition_outcome indent s).state.offset
definition_forward indent s =
    bool_cases (begins_with (λ b. b == colon) (unscanned s))
    (λ marked. rw marked (omega arith))
    (λ other. rw other (omega arith))

pub item_forward : (indent : ℕ) (s : LineState) (m : Option Marker)
    → s.offset ≤ (item_outcome_by indent s m).state.offset
item_forward indent s None = omega arith
item_forward indent s (Some m) =
    bool_cases (space_or_end_follows (bytes_further m.width s))
    (λ follows. rw follows (omega arith))
    (λ bare. rw bare (omega arith))

pub task_forward : (s : LineState) → s.offset ≤ (task_outcome s).state.offset
task_forward s = go (task_box (unscanned (after_space 3 s))) refl
  where
    go : (box : Option Bool) → task_box (unscanned (after_space 3 s)) ≡ box → s.offset ≤ (task_outcome s).state.offset
    go (Some checked) e = rw (e, task_outcome) (omega arith)
    go None e = rw (e, task_outcome) (omega arith)

pub alert_forward : (s : LineState) → s.offset ≤ (alert_outcome s).state.offset
alert_forward s = go (alert_line (unscanned s)) refl
  where
    go : (line : Option (BlockQuoteKind × ℕ)) → alert_line (unscanned s) ≡ line
        → s.offset ≤ (alert_outcome s).state.offset
    go (Some alert) e = rw (e, alert_outcome) (omega arith)
    go None e = rw (e, alert_outcome) (omega arith)

pub breaks_stay : (bytes : List ℕ) (known : KnownBreaks) (offset later : ℕ) → offset ≤ later
    → AreTrueBreaks bytes known offset → AreTrueBreaks bytes known later
breaks_stay bytes known offset later forward is = (λ k from before. is.0 k (omega arith) before, is.1)
