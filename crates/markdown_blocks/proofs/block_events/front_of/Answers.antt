use Rattle.std.proofs.Common.{[], ◌∷◌, ◌++◌, arith, length-append}
use Rattle.markdown_blocks.proofs.taken.TakenLemmas.{taken-next}
use Rattle.markdown_blocks.proofs.block_events.PartLemmas.{lines_few}
use Rattle.markdown_blocks.proofs.block_events.front_of.Goals as goal

pub invariant_of-result : goal.invariant_of-result
invariant_of-result c = record { few = omega (arith, c.requires, lines_few c.args.text.now) }

pub loop-taken-preserved : goal.loop-taken-preserved
loop-taken-preserved c =
    let before = c.loop-taken.invariant in
    let line = c.in-Some.field-0-0.now in (
      before.0 ++ line ∷ [],
      taken-next c.args.text.now c.loop-taken.taken c.in-Some.more before.0 line before.1 c.in-Some.ensures.line,
      omega (arith, c.loop-taken-test.true, before.1.counted, length-append before.0 (line ∷ [])),
    )
