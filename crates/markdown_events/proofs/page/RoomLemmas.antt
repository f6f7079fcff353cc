-- What references may still add to a page, from one leaf block to the next.
use Rattle.std.proofs.Common.{ℕ, ◌+◌, ◌-◌, List, [], ◌∷◌, ◌++◌, map, Option, inl, inr, ◌≡◌, ◌∙◌, ap, sym, arith}
use Rattle.std.proofs.lemmas.List.{map-append}
use Rattle.std.specs.declared.ops.Range.{Range}
use Rattle.markdown_values.specs.declared.values.events.Event.{Event}
use Rattle.markdown_blocks.specs.declared.containers.Container.{Container}
use Rattle.markdown_blocks.specs.events.Events.{LeafBlock}
use Rattle.markdown_events.specs.InlineEvents.{EventSetting, RangedEvent, seen_event, with_cells}
use Rattle.markdown_events.specs.declared.page.reading.Room.{Room}
use Rattle.markdown_events.specs.page.Places.{Place}
use Rattle.markdown_events.specs.page.References.{AreEventsInRoom, IsLeft, added, begun_cells, empty_cells, room_after, without_references}
use Rattle.markdown_events.specs.page.TaskEvents.{AreBlockEvents}

-- What holds of the events of a block wherever labels lead and however many cells may be filled in holds of them in any room.
pub in_room : {P : Type 0} (page : List ℕ) (setting : EventSetting) (room : Room) (here : Place) (waiting : Option Container) (block : LeafBlock)
    → (events : List RangedEvent) → ((s : EventSetting) → AreBlockEvents page s here waiting block events → P)
    → AreEventsInRoom page setting room here waiting block events → P
in_room page setting room here waiting block events holds (inl (are, fits)) = holds (with_cells room.cells setting) are
in_room page setting room here waiting block events holds (inr (all, are_all, more, are)) = holds (without_references (with_cells room.cells setting)) are

-- one after another
pub added_both : (a b : List RangedEvent) → added (a ++ b) ≡ added a + added b
added_both [] b = omega arith
added_both (event ∷ later) b = omega (arith, added_both later b)

pub empty_both : (a b : List RangedEvent) → empty_cells (a ++ b) ≡ empty_cells a + empty_cells b
empty_both [] b = omega arith
empty_both (event ∷ later) b = omega (arith, empty_both later b)

pub cells_both : (a b : List RangedEvent) → begun_cells (a ++ b) ≡ begun_cells a + begun_cells b
cells_both [] b = omega arith
cells_both (event ∷ later) b = omega (arith, cells_both later b)

-- a room is what it has for both
pub same_room : (left : Room) (references cells : ℕ) → left.references ≡ references → left.cells ≡ cells
    → left ≡ record { references = references; cells = cells }
same_room left references cells is are =
    ap (λ n. record { references = n; cells = left.cells }) is ∙ ap (λ n. record { references = references; cells = n }) are

pub after_nothing : (room : Room) → room ≡ room_after room []
after_nothing room = same_room room (room.references - 0) (room.cells - 0) (omega arith) (omega arith)

-- what events leave that add no more than these two lists of them
pub after_parts : (room : Room) (a b all : List RangedEvent) → added all ≡ added a + added b → empty_cells all ≡ empty_cells a + empty_cells b
    → room_after room all ≡ room_after (room_after room a) b
after_parts room a b all adds empty = same_room (room_after room all) _ _ (omega (arith, adds)) (omega (arith, empty))

pub room_after_both : (room : Room) (a b : List RangedEvent) → room_after room (a ++ b) ≡ room_after (room_after room a) b
room_after_both room a b = after_parts room a b (a ++ b) (added_both a b) (empty_both a b)

-- what is left is what enough room leaves
pub left_is : (room left : Room) (events : List RangedEvent) → IsLeft room events left → left ≡ room_after room events
left_is room left events is = same_room left _ _ (omega (arith, is.references)) is.cells

-- in two pieces of memory
pub added_in_pieces : (all front back : List (Event × Range ℕ)) → front ++ back ≡ all
    → added (map seen_event all) ≡ added (map seen_event front) + added (map seen_event back)
added_in_pieces all front back is =
    ap (λ events. added (map seen_event events)) (sym is) ∙ (ap added (map-append seen_event front back) ∙ added_both (map seen_event front) (map seen_event back))

pub empty_in_pieces : (all front back : List (Event × Range ℕ)) → front ++ back ≡ all
    → empty_cells (map seen_event all) ≡ empty_cells (map seen_event front) + empty_cells (map seen_event back)
empty_in_pieces all front back is =
    ap (λ events. empty_cells (map seen_event events)) (sym is)
    ∙ (ap empty_cells (map-append seen_event front back) ∙ empty_both (map seen_event front) (map seen_event back))

-- what is left after both
pub left_after_pieces : (room middle left : Room) (all front back : List (Event × Range ℕ)) → front ++ back ≡ all
    → IsLeft room (map seen_event front) middle → IsLeft middle (map seen_event back) left → IsLeft room (map seen_event all) left
left_after_pieces room middle left all front back is first second = record {
  references = omega (arith, first.references, second.references, added_in_pieces all front back is);
  cells = omega (arith, first.cells, second.cells, empty_in_pieces all front back is);
}
