use Rattle.std.proofs.Common.{List, ℕ, drop, length, map, subst, sym, take}
use Rattle.markdown_blocks.specs.events.Events.{seen_leaf}
use Rattle.markdown_blocks.proofs.ForCallers.{content_utf8}
use Rattle.markdown_events.specs.InlineEvents.{RangedEvent, seen_event}
use Rattle.markdown_events.specs.page.LeafContent.{EndWithin, LieInBlock}
use Rattle.markdown_events.proofs.page.leaf_content.PlaceLemmas.{block_lies, events_within}
use Rattle.markdown_events.proofs.page.leaf_content.text_events.Goals as goal

pub of_content-source-requires-clause-utf8 : goal.of_content-source-requires-clause-utf8
of_content-source-requires-clause-utf8 g c =
    content_utf8 c.args.leaf.kind c.args.here.containers.now c.args.here.kept (take c.args.leaf.bytes (drop c.args.leaf.start c.args.reading.now.page.now))
    c.in_ok-content.content c.in_ok-content.ensures.content c.requires.cut_out.lines

pub in_page-requires-clause-within : goal.in_page-requires-clause-within
in_page-requires-clause-within g c =
    subst (λ (t : List ℕ). EndWithin (length t) (map seen_event c.in_ok-events.events.items)) c.of_content-source.ensures
    (events_within c.of_content-source.result (map seen_event c.in_ok-events.events.items) c.in_ok-events.ensures.within)

pub returns-clause-within : goal.returns-clause-within
returns-clause-within g c =
    let within = subst (λ (t : List ℕ). EndWithin (length t) (map seen_event c.in_ok-events.events.items)) c.of_content-source.ensures
    (events_within c.of_content-source.result (map seen_event c.in_ok-events.events.items) c.in_ok-events.ensures.within) in
    subst (λ (es : List RangedEvent). LieInBlock (seen_leaf c.args.leaf) es) (sym c.in_page.ensures)
    (block_lies c.args.reading.now.page.now (seen_leaf c.args.leaf) c.args.here.containers.now c.args.here.kept c.in_ok-content.content
    c.in_ok-content.ensures.content
    (map seen_event c.in_ok-events.events.items) within)
