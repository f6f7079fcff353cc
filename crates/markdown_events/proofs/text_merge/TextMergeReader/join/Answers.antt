use Rattle.std.proofs.Common.{List, OnOk, true, ◌<◌, ◌≤◌, ◌≡◌, refl, subst}
use Rattle.std.specs.Prelude.{option_map}
use Rattle.std.proofs.lemmas.Result.{on_ok_weaker}
use Rattle.markdown_events.specs.InlineEvents.{RangedEvent, seen_event}
use Rattle.markdown_events.specs.Targets.{Targets}
use Rattle.markdown_events.specs.TextMerge.{GivesMergedWith, MergeLeft, merged_left, reads_text, unread}
use Rattle.markdown_events.proofs.text_merge.MergeLemmas.{join_fewer, joined_given, joined_no_more}
use Rattle.markdown_events.proofs.text_merge.TextMergeReader.join.Goals as goal

pub returns-clause-same : goal.returns-clause-same
returns-clause-same c =
    let new : MergeLeft = record {
      left = c.self.inside.reader;
      joining = c.join_to.new.joining;
      after = option_map seen_event c.join_to.new.after;
    } in
    subst (λ (old : MergeLeft). reads_text old.after ≡ true → OnOk c.join_to.result ((more : Targets) → (events : List RangedEvent)
    → GivesMergedWith more new events → GivesMergedWith more old events)) c.self.view_is
    (λ reads. on_ok_weaker c.join_to.result (λ joins. joined_given _ new reads refl joins.1 joins.0) c.join_to.ensures.joined) c.requires.reads

pub returns-clause-fewer : goal.returns-clause-fewer
returns-clause-fewer c =
    let inside = c.self.inside in
    let old : MergeLeft = record { left = inside.reader; joining = inside.joining; after = option_map seen_event inside.after } in
    let new : MergeLeft = record {
      left = inside.reader;
      joining = c.join_to.new.joining;
      after = option_map seen_event c.join_to.new.after;
    } in
    subst (λ (m : MergeLeft). reads_text m.after ≡ true → OnOk c.join_to.result (unread new.left new.after < unread m.left m.after))
    c.self.view_is (λ reads. on_ok_weaker c.join_to.result (λ joins. join_fewer old new reads refl joins.1) c.join_to.ensures.joined) c.requires.reads

pub returns-clause-no_more : goal.returns-clause-no_more
returns-clause-no_more c =
    let new : MergeLeft = record {
      left = c.self.inside.reader;
      joining = c.join_to.new.joining;
      after = option_map seen_event c.join_to.new.after;
    } in
    subst (λ (old : MergeLeft). reads_text old.after ≡ true → OnOk c.join_to.result (merged_left new ≤ merged_left old)) c.self.view_is
    (λ reads. on_ok_weaker c.join_to.result (λ joins. joined_no_more _ new reads refl joins.1 joins.0) c.join_to.ensures.joined) c.requires.reads
