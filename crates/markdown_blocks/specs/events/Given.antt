-- The events that are left of a block and of a page, while they are given one after the other.
use Rattle.std.specs.Prelude.{ℕ, Bool, ◌+◌, ◌-◌, ◌*◌, ◌≡◌, List, [], ◌++◌, length, drop, map, replicate, Option, Some, None}
use Rattle.markdown_scanners_tree.specs.line.State.{LineState}
use Rattle.markdown_scanners_tree.specs.scanners.TextLines.{lines_of}
use Rattle.markdown_blocks.specs.blocks.Pages.{Piece, AreBlocks, lines_in}
use Rattle.markdown_blocks.specs.declared.blocks.BlockKind.{BlockKind}
use Rattle.markdown_blocks.specs.containers.Containers.{Between}
use Rattle.markdown_values.specs.declared.values.extensions.Extensions.{Extensions}
use Rattle.markdown_blocks.specs.declared.containers.Container.{Container}
use Rattle.markdown_blocks.specs.declared.step.Step.{Step}
use Rattle.markdown_blocks.specs.declared.taken.Extent.{Extent}
use Rattle.markdown_blocks.specs.walk.Walk.{rest_of}
use Rattle.markdown_blocks.specs.events.Events.{Event, leaf, ends, LeafBlock, Part, AreLeaves, started, AreEvents, open_after}

-- What is left of a block: how many containers end; how many of its own have begun, and the offset in its first line, before which
-- so many bytes of the page stand, before the next one's marker; its kind; the lines that no leaf block has that was given; and how
-- much of its content those leaf blocks have.
pub record BlockLeft : Type 0 where
  pub ending : ℕ
  pub begun : ℕ
  pub front : ℕ
  pub position : LineState
  pub kind : BlockKind
  pub part : Part
  pub used : ℕ

-- the whole block of a step, before which so many lines and bytes of the page stand and so many containers are open
abbrev pub block_left : Step → Extent → ℕ → BlockLeft
block_left step before depth = record {
  ending = depth - step.kept;
  begun = step.kept;
  front = before.bytes;
  position = step.start;
  kind = step.block.kind;
  part = record { line = before.lines; start = before.bytes; words = rest_of step; lines = lines_of step.lines.now };
  used = 0;
}

-- in these containers and with this content it gives these events from here
pub record GivesBlock (outer : List Container) (content : List ℕ) (left : BlockLeft) (events : List Event) : Type 0 where
  pub leaves : List LeafBlock
  pub are_leaves : AreLeaves outer left.kind left.part (drop left.used content) leaves
  pub given : events ≡ replicate left.ending ends
      ++ started left.front left.position (drop left.begun outer) ++ map leaf leaves

-- a number that each of its events lowers; it is 0 where none is left
abbrev pub block_events_left : List Container → BlockLeft → ℕ
block_events_left outer left = left.ending + (length outer - left.begun) + length left.part.lines

-- a block that is read and not given yet, and its content where it may begin with a definition
pub record Pending : Type 0 where
  pub block : BlockLeft
  pub content : List ℕ

-- How far a page is read: the extensions that are on; what is left of it after the block that is read, the containers that are
-- open there, whether a term stands before it, and whether a paragraph does, how many of them have begun and not ended where no
-- block is read, how many lines and bytes stand before it, and that block.
pub record Left : Type 0 where
  pub text : List ℕ
  pub extensions : Extensions
  pub containers : List Container
  pub term : Bool
  pub paragraph : Bool
  pub begun : ℕ
  pub line : ℕ
  pub start : ℕ
  pub next : Option Pending

-- the block that is read gives these events, and so many containers are open then
abbrev pub GivesPending : List Container → Option Pending → List Event → Type 0
GivesPending outer None events = events ≡ []
GivesPending outer (Some pending) events = GivesBlock outer pending.content pending.block events

abbrev pub depth_then : ℕ → List Container → Option Pending → ℕ
depth_then begun containers None = begun
depth_then begun containers (Some pending) = length containers

-- its extensions, its containers, and whether a term stands there
abbrev pub between_of : Left → Between
between_of left = record { extensions = left.extensions; containers = left.containers; term = left.term; paragraph = left.paragraph }

-- from here the page gives these events
pub record Gives (left : Left) (events : List Event) : Type 0 where
  pub pieces : List Piece
  pub joined : lines_in pieces ≡ lines_of left.text
  pub each : AreBlocks (between_of left) pieces []
  pub pending : List Event
  pub is_pending : GivesPending left.containers left.next pending
  pub blocks : List Event
  pub are_events : AreEvents left.containers left.line left.start pieces blocks
  pub given : events ≡ pending ++ blocks ++ replicate (open_after (depth_then left.begun left.containers left.next) pieces) ends

-- a number that each event lowers
abbrev pub pending_left : ℕ → List Container → Option Pending → ℕ
pending_left begun containers None = begun
pending_left begun containers (Some pending) = length containers + block_events_left containers pending.block

abbrev pub events_left : Left → ℕ
events_left left = 4 * length left.text + pending_left left.begun left.containers left.next

-- The containers that have begun and in which the next leaf block stands; after the last leaf block, those that have not ended.
abbrev pub begun_of : ℕ → Option Pending → ℕ
begun_of begun None = begun
begun_of begun (Some pending) = pending.block.begun
