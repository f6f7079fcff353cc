use Rattle.std.proofs.Common.{map, sym, subst, ◌∙◌, arith}
use Rattle.page_tables.specs.Marks.{AreMarksOf, mark_view}
use Rattle.page_tables.proofs.SettledLemmas.{settled_same, settled_again, settled_if}
use Rattle.page_tables.proofs.formatted.is_settled.Goals as goal

pub returns-then-not-are_same : goal.returns-then-not-are_same
returns-then-not-are_same g c =
    let others = map mark_view c.in_ok-others.others.items in
    let k = subst (λ t. AreMarksOf t others) c.in-Some.ensures.same c.in_ok-others.ensures in
    let same = rw c.as_bytes.ensures.value at (rw c.deref.ensures.value at c.are_same.ensures) in (
      λ t. grind (arith, t),
      λ s. let is-same = same.1 (settled_same _ c.args.page.now c.args.text.now (map mark_view c.args.marks.now) others c.requires k s) in
          grind (arith, is-same, c.if-not-are_same.true),
    )

pub returns : goal.returns
returns g c =
    let width = g.W.CellWidths.width c.args.widths.now in
    let page = c.args.page.now in
    let text = c.args.text.now in
    let marks = map mark_view c.args.marks.now in
    let others = map mark_view c.in_ok-others.others.items in
    let k = subst (λ t. AreMarksOf t others) c.in-Some.ensures.same c.in_ok-others.ensures in
    let same = rw c.as_bytes.ensures.value at (rw c.deref.ensures.value at c.are_same.ensures) in
    let again = rw c.deref-2.ensures.value at c.in_ok-again.ensures in
    let equal = rw c.deref-3.ensures.value at c.are_equal.ensures.same in (
      λ t. settled_if width page text marks others c.requires k c.in-Some.ensures.text (same.0 c.if-not-are_same.false) (sym again ∙ equal.0 t),
      λ s. equal.1 (again ∙ settled_again width page text marks others c.requires k s),
    )
