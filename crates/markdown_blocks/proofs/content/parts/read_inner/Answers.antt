use Rattle.std.proofs.Common.{arith}
use Rattle.std.proofs.lemmas.Bool.Decides.{nat_tests}
use Rattle.markdown_blocks.proofs.kinds.KindLemmas.{not_given}
use Rattle.markdown_blocks.proofs.content.parts.InnerLemmas.{read-more, read-none}
use Rattle.markdown_blocks.proofs.content.parts.read_inner.Goals as goal

pub loop-line-init : goal.loop-line-init
loop-line-init c = (read-none c.args.kind c.args.outer.now.containers c.args.lines.now c.args.first, omega arith, c.requires)

pub loop-line-preserved : goal.loop-line-preserved
loop-line-preserved c =
    let next = c.in-Some.ensures.line in (
      read-more c.args.kind c.args.outer.now.containers c.args.lines.now c.args.first c.loop-line.read c.in-Some.more c.in-Some.line.now
          c.loop-line.invariant.0 next
          (λ all out. not_given c.if-is_left_out.false (λ t. t) (c.is_left_out.ensures.1 (grind (arith, nat_tests), out))),
      omega (arith, c.loop-line.invariant.1, next.further),
      next.within,
    )
