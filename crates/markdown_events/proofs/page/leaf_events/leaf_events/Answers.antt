-- Each kind of block has its own events.
use Rattle.std.proofs.Common.{ℕ, List, ◌≡◌, subst, sym, ⊎_elim}
use Rattle.std.proofs.lemmas.Result.{IfOk-weaker}
use Rattle.markdown_blocks.specs.declared.blocks.BlockKind.{BlockKind}
use Rattle.markdown_blocks.specs.events.Events.{LeafBlock, seen_leaf}
use Rattle.markdown_events.specs.page.Readings.{seen_reading}
use Rattle.markdown_events.specs.InlineEvents.{EventSetting, RangedEvent}
use Rattle.markdown_events.specs.page.LeafEvents.{AreLeafEventsOf, Place}
use Rattle.markdown_events.proofs.page.leaf_events.leaf_events.Goals as goal

of_kind : (page : List ℕ) (setting : EventSetting) (here : Place) (block : LeafBlock) (events : List RangedEvent) (kind : BlockKind)
    → block.kind ≡ kind → AreLeafEventsOf kind page setting here block events → AreLeafEventsOf block.kind page setting here block events
of_kind page setting here block events kind is are = subst (λ (k : BlockKind). AreLeafEventsOf k page setting here block events) (sym is) are

pub returns-in-Indented-clause-events : goal.returns-in-Indented-clause-events
returns-in-Indented-clause-events g c =
    let setting : EventSetting = seen_reading g.D.Definitions.targets c.args.reading.now in
    IfOk-weaker c.indented_events.result _ _
    (λ events are. of_kind c.args.reading.now.page.now _ _ (seen_leaf c.args.leaf) _ _ c.in-Indented.is (are setting)) c.indented_events.ensures.events

pub returns-in-Fenced-clause-events : goal.returns-in-Fenced-clause-events
returns-in-Fenced-clause-events g c =
    let setting : EventSetting = seen_reading g.D.Definitions.targets c.args.reading.now in
    IfOk-weaker c.fenced_events.result _ _
    (λ events are. of_kind c.args.reading.now.page.now _ _ (seen_leaf c.args.leaf) _ _ c.in-Fenced.is (are c.in-Fenced.field-0 setting))
    c.fenced_events.ensures.events

pub returns-in-Html-clause-events : goal.returns-in-Html-clause-events
returns-in-Html-clause-events g c =
    let setting : EventSetting = seen_reading g.D.Definitions.targets c.args.reading.now in
    IfOk-weaker c.html_events.result _ _
    (λ events are. of_kind c.args.reading.now.page.now _ _ (seen_leaf c.args.leaf) _ _ c.in-Html.is (are c.in-Html.field-0 setting))
    c.html_events.ensures.events

pub returns-in-Heading-clause-events : goal.returns-in-Heading-clause-events
returns-in-Heading-clause-events g c =
    IfOk-weaker c.heading_events.result _ _ (λ events are.
    ⊎_elim (λ is. of_kind c.args.reading.now.page.now _ _ (seen_leaf c.args.leaf) _ _ is are)
    (λ is. of_kind c.args.reading.now.page.now _ _ (seen_leaf c.args.leaf) _ _ is are) c.in-Heading.is) c.heading_events.ensures.events
