use Rattle.std.proofs.Common.{ℕ, List, ◌+◌, ◌∙◌, ap, map, subst, sym}
use Rattle.markdown_values.specs.strings.Text.{cow_text}
use Rattle.markdown_values.specs.values.Tags.{tag_view}
use Rattle.std.proofs.lemmas.Result.{IfOk-weaker}
use Rattle.markdown_blocks.specs.events.Events.{seen_leaf}
use Rattle.markdown_events.specs.InlineEvents.{RangedEvent, seen_event}
use Rattle.markdown_events.specs.page.LeafContent.{LieInBlock}
use Rattle.markdown_events.specs.page.Places.{element}
use Rattle.markdown_events.proofs.page.leaf_events.RangeLaws.{lines_lie}
use Rattle.markdown_events.proofs.page.leaf_events.enclosed_lines.Goals as goal

pub returns-clause-within : goal.returns-clause-within
returns-clause-within c =
    let begins = ap (λ (n : ℕ). element (tag_view cow_text c.args.tag) n (c.args.leaf.start + c.args.leaf.bytes) (map seen_event c.args.lines.items))
    (rw c.deref.ensures.value at c.lines_offset-from.ensures) in
    IfOk-weaker c.block_element.result _ _ (λ events is has inner.
    subst (λ (es : List RangedEvent). LieInBlock (seen_leaf c.args.leaf) es) (sym (is ∙ begins))
    (lines_lie (tag_view cow_text c.args.tag) (seen_leaf c.args.leaf) (map seen_event c.args.lines.items) has inner)) c.block_element.ensures
