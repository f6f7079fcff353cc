-- The parent's only child can be cut.
use Rattle.std.proofs.Common.{[], ◌∷◌, ◌≡◌, ◌≢◌, ◌≤◌, ℕ, None, false, refl, sym, ap, ◌∙◌, subst, arith}
use Rattle.markdown_values.specs.tree.Linked.{Linked}
use Rattle.markdown_values.specs.tree.Tree.{after_append}
use Rattle.markdown_values.specs.tree.Truncate as truncate
use Rattle.markdown_values.specs.tree.Truncate.{CanCut, CanTruncate}
use Rattle.bench_calls.specs.declared.small_trees.Span.{Span}
use Rattle.bench_calls.specs.Spans.{IsParent}
use Rattle.bench_calls.proofs.small_trees.cut.Goals as goal

abbrev span_of : Span → truncate.Span
span_of p = record { start = p.start; end = p.end; escaped = false }

-- a range around the byte 4
abbrev child : Span
child = record { start = 3; end = 8 }

can_cut : (t parent : Linked Span) → t ≡ after_append parent child → IsParent parent → CanTruncate span_of 4 t
can_cut t parent appended p =
    subst (CanTruncate span_of 4) (sym (appended ∙ ap (λ (x : Linked Span). after_append x child) p.2))
    ((2, span_of child) ∷ [], ((2, record { child = None; next = None; item = child }) ∷ [], (refl, refl, refl), refl), cut)
  where
    cut : CanCut 4 (span_of child)
    cut = record { starts_before = λ _. omega arith; has_backslash = λ _ same. absurd (omega (arith, same)) }

pub truncate_siblings-requires-clause-range : goal.truncate_siblings-requires-clause-range
truncate_siblings-requires-clause-range c =
    can_cut _ c.in_ok-tree.tree
    (c.in_ok-append.ensures.ok ∙ ap (λ (x : Span). after_append c.in_ok-tree.tree x) c.covering.ensures)
    c.in_ok-tree.ensures
