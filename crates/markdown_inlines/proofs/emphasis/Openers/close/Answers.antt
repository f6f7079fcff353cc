use Rattle.std.proofs.Common.{◌≡◌, ◌∙◌, None, ap, length, reverse, subst, sym}
use Rattle.markdown_inlines.specs.Emphasis.{nearest}
use Rattle.markdown_inlines.proofs.emphasis.BoundLemmas.{passed_all, passed_fewer}
use Rattle.markdown_inlines.proofs.emphasis.Openers.close.Goals as goal

pub invariant_of-self : goal.invariant_of-self
invariant_of-self c = (
  c.self.invariant.0,
  rw (c.kind_of-kind.ensures.kind, c.len.ensures ∙ sym c.deref.ensures.len ∙ ap length c.deref.ensures.value) (passed_all c.self.inside.passed c.self.inside.stack.items c.args.closer.run c.requires
      (rw (sym c.kind_of-kind.ensures.kind) c.kind_of-kind.ensures.within)
      (subst (λ os. nearest c.args.closer.run (reverse os) ≡ None) c.deref.ensures.value c.in_default.ensures.none) c.self.invariant.1),
)

pub invariant_of-self-2 : goal.invariant_of-self-2
invariant_of-self-2 c = (
  c.keep.ensures.some c.self.invariant.0,
  passed_fewer c.self.inside.passed c.lower.new.numbers c.self.inside.stack.items c.keep.new.openers.items c.in-Some.index c.lower.ensures.lowered
      c.lower.ensures.kinds c.keep.ensures.outer c.keep.ensures.few c.self.invariant.1,
)
