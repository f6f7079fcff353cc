use Rattle.std.proofs.Common.{◌<◌, ◌≡◌, ◌∙◌, List, Option, Some, None, IfNone, IfSome, map, arith, unwrap_or}
use Rattle.markdown_blocks.specs.events.Events.{seen_leaf}
use Rattle.markdown_events.specs.InlineEvents.{EventSetting, RangedEvent, seen_event}
use Rattle.markdown_events.specs.declared.page.reading.Room.{Room}
use Rattle.markdown_events.specs.page.Readings.{seen_place, seen_reading}
use Rattle.markdown_events.specs.page.References.{IsLeft, added, room_after}
use Rattle.markdown_events.proofs.page.RoomLemmas.{left_is}
use Rattle.markdown_events.proofs.page.TextLemmas.{with_adds}
use Rattle.markdown_events.proofs.page.references.events_in_room.Goals as goal

-- where nothing is added, the room is enough
left_of : (found : Option Room) (room : Room) (events : List RangedEvent) → IfSome found (IsLeft room events)
    → IfNone found (room.references < added events) → added events ≡ 0 → unwrap_or found room ≡ room_after room events
left_of (Some left) room events is more none = left_is room left events is
left_of None room events is more none = absurd (omega (arith, more, none))

pub returns-clause-room : goal.returns-clause-room
returns-clause-room g c =
    let setting : EventSetting = seen_reading g.D.Definitions.targets c.args.reading.now in
    let events = map seen_event c.in_ok-events-2.events.items in
    c.unwrap_or-left.ensures ∙ left_of c.room_after-2.result c.args.reading.now.room events c.room_after-2.ensures.left c.room_after-2.ensures.none
    (with_adds c.args.reading.now.page.now setting c.args.task (seen_place c.args.here) (seen_leaf c.args.leaf) events c.in_ok-events-2.ensures)
