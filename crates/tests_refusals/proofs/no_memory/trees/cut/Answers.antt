-- The parent's only child can be cut.
use Rattle.std.proofs.Common.{[], ◌∷◌, None, refl, sym, ap, ◌∙◌, subst}
use Rattle.markdown_values.specs.tree.Linked.{Linked}
use Rattle.markdown_values.specs.tree.Tree.{after_append}
use Rattle.markdown_values.specs.tree.Truncate.{CanTruncate}
use Rattle.tests_refusals.specs.declared.no_memory.trees.Span.{Span}
use Rattle.tests_refusals.specs.Spans.{span_of, spans_of}
use Rattle.tests_refusals.proofs.no_memory.trees.cut.Goals as goal

pub truncate_siblings-requires-clause-range : goal.truncate_siblings-requires-clause-range
truncate_siblings-requires-clause-range c =
    subst (CanTruncate span_of c.args.end)
    (sym (c.in_ok-append.ensures.ok ∙ ap (λ (t : Linked Span). after_append t c.args.child) c.in_ok-tree.ensures.2))
    (spans_of (c.args.child ∷ []), ((2, record { child = None; next = None; item = c.args.child }) ∷ [], (refl, refl, refl), refl), c.requires)
