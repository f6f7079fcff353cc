-- What a block is read with is what the reader has.
use Rattle.std.proofs.lemmas.Result.{IfOk-weaker}
use Rattle.markdown_events.proofs.event_reader.EventReader.leaf_events.Goals as goal

pub returns-clause-events : goal.returns-clause-events
returns-clause-events g c =
    let task = rw (← c.self.view_is) at c.task-task.ensures in
    rw (← c.self.view_is)
    (IfOk-weaker c.events_in_room.result _ _
    (λ r are. rw (c.place-here.ensures.place, c.new-definitions.ensures.page, c.new-definitions.ensures.broken) at (are c.self.inside.elements.waiting task))
    c.events_in_room.ensures.events)
