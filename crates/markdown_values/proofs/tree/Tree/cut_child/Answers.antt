use Rattle.std.proofs.Common.{sym, ◌∙◌, refl}
use Rattle.std.proofs.lemmas.Bool.{eq-eqb, ne_eqb}
use Rattle.markdown_values.specs.tree.Truncate.{CanCut}
use Rattle.markdown_values.proofs.tree.Tree.cut_child.Goals as goal
use Rattle.markdown_values.proofs.tree.Tree.cut_child.Goals.{After-index}

pub returns-then-old_end-end-clause-state : goal.returns-then-old_end-end-clause-state
returns-then-old_end-end-clause-state g c =
    rw c.index.ensures.here (c.focus_on.ensures ∙ rw (c.set_next.ensures.state, eq-eqb _ _ (sym c.end-old_end.ensures ∙ c.if-old_end-end.true)))

pub overflow_sub-end : goal.overflow_sub-end
overflow_sub-end g c =
    let can : CanCut c.args.end (g.T.SpanItem.span c.index.result.now.item) = rw c.index.ensures.here at c.requires.range in
    can.has_backslash (λ e. c.if-old_end-end.false (c.end-old_end.ensures ∙ e)) (sym c.start-start.ensures ∙ c.if-start-end.true) (rw (← c.backslash_escaped-escaped.ensures, c.if-escaped.true) refl)

pub returns-then-escaped-clause-state : goal.returns-then-escaped-clause-state
returns-then-escaped-clause-state g c =
    let r = c.index.ensures.here in
    let ranged = rw r at c.set_item_range.ensures.state in
    rw r (c.focus_on-then-escaped.ensures ∙ rw (
      ranged,
      ne_eqb _ _ (λ e. c.if-old_end-end.false (c.end-old_end.ensures ∙ e)),
      eq-eqb _ _
          (sym c.start-start.ensures ∙ c.if-start-end.true),
      ← c.backslash_escaped-escaped.ensures,
      c.if-escaped.true,
    ))

pub returns-else-escaped-clause-state : goal.returns-else-escaped-clause-state
returns-else-escaped-clause-state g c =
    let r = c.index.ensures.here in
    rw r (c.drop_after.ensures.state ∙ rw (
      ne_eqb _ _ (λ e. c.if-old_end-end.false (c.end-old_end.ensures ∙ e)),
      eq-eqb _ _
          (sym c.start-start.ensures ∙ c.if-start-end.true),
      ← c.backslash_escaped-escaped.ensures,
      c.if-escaped.false,
    ))

pub returns-else-start-end-clause-state : goal.returns-else-start-end-clause-state
returns-else-start-end-clause-state g c =
    let r = c.index.ensures.here in
    let ranged = rw (r, c.start-start.ensures) at c.set_item_range-else-start-end.ensures.state in
    rw r (c.focus_on-else-start-end.ensures ∙ rw (
      c.set_next-else-start-end.ensures.state,
      ranged,
      ne_eqb _ _
          (λ e. c.if-old_end-end.false (c.end-old_end.ensures ∙ e)),
      ne_eqb _ _
          (λ e. c.if-start-end.false (c.start-start.ensures ∙ e)),
    ))
