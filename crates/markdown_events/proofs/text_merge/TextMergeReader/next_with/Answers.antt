use Rattle.std.proofs.Common.{sym, ◌∙◌}
use Rattle.markdown_events.specs.InlineEvents.{seen_event}
use Rattle.markdown_events.proofs.page.ParserLemmas.{in_some}
use Rattle.markdown_events.proofs.text_merge.MergeLemmas.{taken}
use Rattle.markdown_events.proofs.text_merge.TextMergeReader.next_with.Goals as goal

pub returns-clause-event : goal.returns-clause-event
returns-clause-event g c =
    let reads = c.in_ok-reads_text.ensures in
    in_some c.take.result _ _ (λ event takes events given. c.loop-self.invariant.0 _ (c.reads_text.ensures.same _
    (taken (g.B.Definitions.targets c.args.broken.now) c.reads_text.new.self c.take.new.self (seen_event event)
    (sym reads.text ∙ c.if-branch.false) reads.end takes events given))) c.take.ensures.event
