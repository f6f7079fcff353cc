use Rattle.std.proofs.Common.{arith}
use Rattle.markdown_events.proofs.inline_events.PassLemmas.{goes_on, at_end}
use Rattle.markdown_events.proofs.inline_events.push_inlines.Goals as goal

pub loop-inline-preserved : goal.loop-inline-preserved
loop-inline-preserved g c =
    goes_on c.args.source.now (g.D.Definitions.targets c.args.definitions.now) c.args.links.now c.args.inlines.now c.loop-inline.inline-index _
    c.loop-inline.writer c.push_inline.new.writer (omega arith) c.in_ok-push_inline.ensures c.loop-inline.invariant

pub returns : goal.returns
returns g c =
    at_end c.args.source.now (g.D.Definitions.targets c.args.definitions.now) c.args.links.now c.args.inlines.now c.loop-inline.inline-index
    c.loop-inline.writer (omega arith) c.loop-inline.invariant
