use Rattle.std.proofs.Common.{◌<◌, drop, sym, ap, ◌∙◌, subst, arith}
use Rattle.std.proofs.lemmas.Nat.{mod_below}
use Rattle.markdown_scanners_tree.specs.line.State.{LineState, rest_of}
use Rattle.markdown_blocks.proofs.footnotes.ColumnsLemmas.{columns_left}
use Rattle.markdown_blocks.proofs.footnotes.pass_columns.Goals as goal

pub loop-preserved : goal.loop-preserved
loop-preserved c =
    let s = c.loop.start in
    let t = c.scan_space_upto.new.self in
    let took = c.scan_space_upto.ensures in
    let four = sym took.answer ∙ c.loop-test.true in
    let left = columns_left s t took.state c.loop.invariant.3 four (took.step.rest ∙ ap (λ n. drop n (rest_of s)) four) in (
      left.0 ∙ c.loop.invariant.0,
      took.bytes ∙ c.loop.invariant.1,
      omega (arith, took.forward, c.loop.invariant.2),
      subst (λ (z : LineState). z.phase < 4) (sym took.state) (mod_below _ 4 (omega arith)),
    )
