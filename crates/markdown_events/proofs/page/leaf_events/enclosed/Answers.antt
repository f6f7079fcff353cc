use Rattle.std.proofs.Common.{List, map, subst, sym}
use Rattle.markdown_values.specs.strings.Text.{cow_text}
use Rattle.markdown_values.specs.values.Tags.{tag_view}
use Rattle.std.proofs.lemmas.Result.{IfOk-weaker}
use Rattle.markdown_blocks.specs.events.Events.{seen_leaf}
use Rattle.markdown_events.specs.InlineEvents.{RangedEvent, seen_event}
use Rattle.markdown_events.specs.page.LeafContent.{LieInBlock}
use Rattle.markdown_events.proofs.page.leaf_events.RangeLaws.{enclosed_lies}
use Rattle.markdown_events.proofs.page.leaf_events.enclosed.Goals as goal

pub returns-clause-within : goal.returns-clause-within
returns-clause-within c =
    IfOk-weaker c.block_element.result _ _ (λ events is has inner.
    subst (λ (es : List RangedEvent). LieInBlock (seen_leaf c.args.leaf) es) (sym is)
    (enclosed_lies (tag_view cow_text c.args.tag) (seen_leaf c.args.leaf) (map seen_event c.args.inner.items) has inner)) c.block_element.ensures
