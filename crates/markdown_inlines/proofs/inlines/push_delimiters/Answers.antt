use Rattle.std.proofs.Common.{arith}
use Rattle.markdown_inlines.proofs.inlines.OutputLemmas.{delimiter_added}
use Rattle.markdown_inlines.proofs.inlines.push_delimiters.Goals as goal

pub loop-offset-preserved : goal.loop-offset-preserved
loop-offset-preserved c =
    let is = c.loop-offset.invariant in (
      (λ emphasis are. delimiter_added emphasis c.args.marks.now c.args.from c.loop-offset.offset c.loop-offset.inlines.items
          c.push_delimiter.new.inlines.items c.args.inlines.now.items are is.1
          (omega (arith, c.loop-offset-test.true, c.requires.within)) (is.0 emphasis are) c.in_ok-push_delimiter.ensures),
      omega (arith, is.1),
      omega (arith, c.loop-offset-test.true),
    )
