use Rattle.std.proofs.Common.{[], ◌∷◌, length, ap, refl, arith}
use Rattle.std.proofs.lemmas.List.{drop-drop, length-drop}
use Rattle.markdown_blocks.proofs.taken.TakenLemmas.{slice_after}
use Rattle.markdown_blocks.proofs.definitions.definitions_len.Goals as goal

pub loop-definition-preserved : goal.loop-definition-preserved
loop-definition-preserved c =
    let same = slice_after c.args.content.now c.loop-definition.taken in
    let within = c.in-Some.ensures.within in
    let size = ap length same in (
      omega (arith, within, size, length-drop c.loop-definition.taken c.args.content.now, c.loop-definition.invariant.0),
      λ more rest is. c.loop-definition.invariant.1 (c.in-Some.definition ∷ more) rest
          (rw same at c.in-Some.ensures.found, rw drop-drop is),
    )

pub returns-clause-definitions : goal.returns-clause-definitions
returns-clause-definitions c =
    c.loop-definition.invariant.1 [] _ (refl, rw (slice_after c.args.content.now c.loop-definition.taken) at c.in_default.ensures.found)
