use Rattle.std.proofs.Common.{subst, sym}
use Rattle.markdown_blocks.specs.blocks.Leaves.{ClosesFence}
use Rattle.markdown_blocks.proofs.content.parts.is_closing_fence.Goals as goal

pub returns-in-Some : goal.returns-in-Some
returns-in-Some c =
    let same = rw c.new-line.ensures at c.in-Some.ensures.rest in
    let inside = rw c.new-line.ensures at c.in-Some.ensures.inside in (
      λ given. (inside, subst (ClosesFence c.args.count c.args.byte) same (c.closes_fence.ensures.0 given)),
      λ closes. c.closes_fence.ensures.1 (subst (ClosesFence c.args.count c.args.byte) (sym same) closes.1),
    )
