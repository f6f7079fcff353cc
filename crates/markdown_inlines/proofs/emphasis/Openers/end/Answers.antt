use Rattle.std.proofs.Common.{[], ◌∷◌, ◌++◌, ap, ◌∙◌, append_assoc}
use Rattle.markdown_inlines.proofs.emphasis.EmphasisLemmas.{step_more}
use Rattle.markdown_inlines.proofs.emphasis.Openers.end.Goals as goal

pub loop-made-preserved : goal.loop-made-preserved
loop-made-preserved c =
    let before = c.loop-made.invariant in
    let step = step_more c.args.run c.loop-made.closer c.args.self.now c.loop-made.self c.close.new.self before.1 before.2 c.in-Some.made before.5
    c.in-Some.ensures.made before.3 c.in-Some.ensures.some c.in-Some.ensures.within in (
      before.0,
      step.0,
      before.2 ++ c.in-Some.made ∷ [],
      step.1,
      c.in_ok-push.ensures.items ∙ ap (λ es. es ++ c.in-Some.made ∷ []) before.4 ∙ append_assoc c.args.emphasis.now.items before.2 (c.in-Some.made ∷ []),
      step.2,
    )
