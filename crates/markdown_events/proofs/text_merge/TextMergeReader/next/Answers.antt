use Rattle.markdown_events.proofs.page.ParserLemmas.{in_err, in_none, in_some}
use Rattle.markdown_events.proofs.text_merge.MergeLemmas.{merged_with, merged_without}
use Rattle.markdown_events.proofs.text_merge.TextMergeReader.next.Goals as goal

pub returns-clause-event : goal.returns-clause-event
returns-clause-event c =
    in_some c.next_with.result _ _ (λ event gives events g. merged_without _ _ (gives events (merged_with _ _ g))) c.next_with.ensures.event

pub returns-clause-none : goal.returns-clause-none
returns-clause-none c = in_none c.next_with.result (λ gives. merged_without _ _ gives) c.next_with.ensures.none

pub returns-clause-refused : goal.returns-clause-refused
returns-clause-refused c =
    in_err c.next_with.result _ _ (λ refused gives events g. merged_without _ _ (gives events (merged_with _ _ g))) c.next_with.ensures.refused
