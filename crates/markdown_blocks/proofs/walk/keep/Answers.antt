use Rattle.std.proofs.Common.{arith}
use Rattle.markdown_blocks.proofs.walk.WalkLemmas.{kept_settled}
use Rattle.markdown_blocks.proofs.walk.keep.Goals as goal

pub returns-in_ok-push : goal.returns-in_ok-push
returns-in_ok-push c =
    let all = c.loop-outer.outer.ok in
    kept_settled c.args.outer.now.items c.loop-outer.outer.items c.pop-2.new.self.items c.push.new.self.items c.args.kept c.in-Some.last c.past_first_line.result
    (grind (arith, c.loop-outer-test.false, c.len.ensures, all)) c.loop-outer.invariant.1 c.in-Some.ensures.items c.past_first_line.ensures c.in_ok-push.ensures.items
