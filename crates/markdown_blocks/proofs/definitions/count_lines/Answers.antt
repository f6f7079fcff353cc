use Rattle.std.proofs.Common.{◌∷◌, [], ◌++◌, length, drop, ap, arith}
use Rattle.std.proofs.lemmas.List.{length-drop}
use Rattle.markdown_blocks.proofs.taken.TakenLemmas.{taken-next}
use Rattle.markdown_blocks.proofs.whole.WholeLemmas.{some_lines}
use Rattle.markdown_blocks.proofs.definitions.count_lines.Goals as goal

pub loop-more-preserved : goal.loop-more-preserved
loop-more-preserved c = (
  c.loop-more.invariant.0 ++ c.in-Some.field-0-0.now ∷ [],
  taken-next c.args.text.now c.loop-more.taken c.in-Some.more c.loop-more.invariant.0 c.in-Some.field-0-0.now c.loop-more.invariant.1 c.in-Some.ensures.line,
)

pub returns-clause-bytes : goal.returns-clause-bytes
returns-clause-bytes c =
    let none = ap length (some_lines (drop c.loop-more.taken.bytes c.args.text.now) c.in_default.ensures.none) in
    omega (arith, none, length-drop c.loop-more.taken.bytes c.args.text.now, c.loop-more.invariant.1.within)
