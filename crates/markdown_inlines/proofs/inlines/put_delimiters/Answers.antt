use Rattle.std.proofs.Common.{◌∙◌, ap}
use Rattle.markdown_inlines.proofs.inlines.Nests.{by_marks}
use Rattle.markdown_inlines.proofs.inlines.put_delimiters.Goals as goal

pub returns : goal.returns
returns c =
    ap (λ v. v.items) c.swap.ensures.x_after
    ∙ by_marks _ _ _ _ _ _ _ _ c.deref.ensures.value c.deref-2.ensures.value
    c.clear.ensures.items c.in_ok-put_marks.ensures c.in_ok-push_spread.ensures
