-- Each leaf block of a page stands in it, and its text within its lines.
use Rattle.std.proofs.Common.{ℕ, suc, ◌≤◌, List, [], ◌∷◌, length, arith}
use Rattle.std.specs.Prelude.{⊤}
use Rattle.markdown_blocks.specs.byte_order_mark.ByteOrderMark.{text_start}
use Rattle.markdown_values.specs.declared.values.extensions.Extensions.{Extensions}
use Rattle.markdown_blocks.specs.events.Events.{Event, IsEventsOf, LeafBlock, block_end, ends, leaf, starts}
use Rattle.markdown_blocks.specs.laws.Order.{Follow}
use Rattle.markdown_blocks.proofs.ForCallers.{page_in_order}
use Rattle.markdown_events.specs.page.LeafContent.{HasPlace}

-- the block ends within so many bytes, and its text begins within its lines
pub record StandsIn (count : ℕ) (block : LeafBlock) : Type 0 where
  pub offset : HasPlace block
  pub within : block_end block ≤ count

-- each leaf block among the events does
abbrev pub LeavesStandIn : ℕ → List Event → Type 0
LeavesStandIn count [] = ⊤
LeavesStandIn count (leaf block ∷ later) = StandsIn count block × LeavesStandIn count later
LeavesStandIn count (event ∷ later) = LeavesStandIn count later

events_stand : (page : List ℕ) (events : List Event) (line passed : ℕ) → line ≤ passed → Follow page line passed events
    → LeavesStandIn (length page) events × (line ≤ length page)
events_stand page [] line passed low follow = (tt, omega (arith, follow.0))
events_stand page (leaf block ∷ later) line passed low (begins, follow) =
    let more = events_stand page later (block_end block) (block_end block) (omega arith) follow in
    let at = begins.start in
    let after = begins.after in
    let whole = begins.whole in
    let in_line = begins.in_line in (
      (
        record { offset = record { begins = omega (arith, at, after, low); ends = omega (arith, in_line, whole) }; within = more.1 },
        more.0,
      ),
      omega (arith, whole, more.1),
    )
events_stand page (starts container offset ∷ later) line passed low (after, within, follow) =
    events_stand page later line (suc offset) (omega (arith, low, after)) follow
events_stand page (ends ∷ later) line passed low follow = events_stand page later line passed low follow

-- each leaf block of a page stands in it
pub page_leaves_stand : (asked : Extensions) (page : List ℕ) (events : List Event) → IsEventsOf asked page events
    → LeavesStandIn (length page) events
page_leaves_stand asked page events is = (events_stand page events (text_start page) (text_start page) (omega arith) (page_in_order asked page events is)).0
