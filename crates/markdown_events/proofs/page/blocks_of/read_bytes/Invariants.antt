use Rattle.std.proofs.Common.{ℕ, List, ◌≡◌, ◌-◌, ◌≤◌, ◌++◌, drop, length, map}
use Rattle.markdown_blocks.specs.events.Events.{Event, IsEventsOf, seen_event}
use Rattle.markdown_blocks.specs.events.Given.{Gives}
use Rattle.markdown_blocks.specs.link_definitions.LinkDefinitions.{Named, HasDefinitions, first_of, known_before}
use Rattle.markdown_blocks.proofs.link_definitions.NamedLemmas.{Left}
use Rattle.markdown_events.proofs.page.blocks_of.ReadLemmas.{from_here}
use Rattle.markdown_events.proofs.page.blocks_of.read_bytes.Given as goal

-- Whatever events the blocks have that are left, with them the page has those that are added; and whatever these blocks name, the page has
-- definitions that are known as if those were added.
abbrev pub invariant-loop-content : goal.invariant-loop-content
invariant-loop-content l = record {
  within : l.bytes ≤ length l.page;
  few : l.lines ≤ l.bytes;
  are_events : (later : List Event) → Gives (from_here l.walk (drop l.bytes l.page) l.lines l.bytes) later
      → IsEventsOf l.fn.extensions l.page (map seen_event l.blocks.items ++ later);
  are_known : (later : List Named) → Left l.walk (drop l.bytes l.page) later → (named : List Named) × HasDefinitions l.fn.extensions l.page named
      × ((label : List ℕ) → known_before l.known later label ≡ first_of label named);
}

abbrev pub decreases-loop-content : goal.decreases-loop-content
decreases-loop-content l = length l.page - l.bytes
