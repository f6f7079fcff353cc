-- The events of a page whose blocks are read one after another.
use Rattle.std.proofs.Common.{ℕ, List, [], ◌∷◌, ◌++◌, ◌+◌, ◌<◌, ◌≤◌, ◌≡◌, length, drop, map, refl, sym, ap, ◌∙◌, append_assoc, arith, inr}
use Rattle.std.specs.Prelude.{None, replicate}
use Rattle.std.proofs.lemmas.List.{drop_all, length-drop}
use Rattle.markdown_scanners_tree.specs.scanners.TextLines.{lines_of}
use Rattle.markdown_scanners_tree.specs.declared.scanners.reference_definitions.ReferenceDefinition.{ReferenceDefinition}
use Rattle.markdown_blocks.specs.byte_order_mark.ByteOrderMark.{text_of, text_start}
use Rattle.markdown_blocks.specs.blocks.Pages.{root}
use Rattle.markdown_blocks.specs.containers.Containers.{Between}
use Rattle.markdown_values.specs.declared.values.extensions.Extensions.{Extensions}
use Rattle.markdown_blocks.specs.declared.step.Step.{Step}
use Rattle.markdown_blocks.specs.declared.taken.Extent.{Extent}
use Rattle.markdown_blocks.specs.declared.containers.Container.{Container}
use Rattle.markdown_blocks.specs.definitions.Definitions.{IsDefinition}
use Rattle.markdown_blocks.specs.events.Events.{Event, IsEventsOf, LeafBlock, ends, leaf, leaf_of, open_after, started}
use Rattle.markdown_blocks.specs.events.Given.{BlockLeft, Gives, GivesBlock, Left, block_left}
use Rattle.markdown_blocks.specs.walk.Walk.{IsStep, IsContentOf}
use Rattle.markdown_blocks.proofs.definitions.DefinitionLemmas.{no_text}
use Rattle.markdown_blocks.proofs.events.EventLemmas.{block_read, ended_page}
use Rattle.markdown_blocks.proofs.whole.WholeLemmas.{some_lines}

-- how far a page is read where no block is, and all open containers have begun
abbrev pub from_here : Between → List ℕ → ℕ → ℕ → Left
from_here open_now text line start = record {
  text = text;
  extensions = open_now.extensions;
  containers = open_now.containers;
  term = open_now.term;
  paragraph = open_now.paragraph;
  begun = length open_now.containers;
  line = line;
  start = start;
  next = None;
}

pub whole_page : (asked : Extensions) (page : List ℕ) (events : List Event)
    → Gives (from_here (root asked) (text_of page) 0 (text_start page)) events → IsEventsOf asked page events
whole_page asked page events g = (
  g.pieces,
  g.blocks,
  record { joined = g.joined; each = g.each },
  g.are_events,
  g.given ∙ ap (λ es. es ++ g.blocks ++ replicate (open_after 0 g.pieces) ends) g.is_pending,
)

-- with the events of a block those that are left are given
pub block_given : (old new : Between) (lines : List ℕ) (step : Step) → IsStep old lines [] step new → (before : Extent) (content : List ℕ)
    → IsContentOf step new.containers content → (here later : List Event)
    → GivesBlock new.containers content (block_left step before (length old.containers)) here
    → Gives (from_here new (drop step.block.taken.bytes lines) (before.lines + step.block.taken.lines) (before.bytes + step.block.taken.bytes)) later
    → Gives (from_here old lines before.lines before.bytes) (here ++ later)
block_given old new lines step s before content gathered here later given g =
    block_read old new lines step s before content gathered (length old.containers) (drop step.block.taken.bytes lines) refl refl (here ++ later)
    (record {
      pieces = g.pieces;
      joined = g.joined;
      each = g.each;
      pending = here;
      is_pending = given;
      blocks = g.blocks;
      are_events = g.are_events;
      given = ap (λ es. here ++ es)
          (g.given ∙ ap (λ es. es ++ g.blocks ++ replicate (open_after (length new.containers) g.pieces) ends) g.is_pending)
          ∙ sym (append_assoc here g.blocks (replicate (open_after (length new.containers) g.pieces) ends));
    })

-- at the end of the page all containers end
pub all_end : (open_now : Between) (text : List ℕ) (line start : ℕ) → text ≡ []
    → Gives (from_here open_now text line start) (replicate (length open_now.containers) ends)
all_end open_now text line start last = ended_page text open_now.extensions open_now.containers open_now.term open_now.paragraph line start (length open_now.containers) last

-- no definition stands in no content
pub none_in_nothing : (content : List ℕ) → length content ≡ 0 → (d : ReferenceDefinition) → ¬ IsDefinition content d
none_in_nothing [] none = no_text
none_in_nothing (b ∷ bytes) none = absurd (omega (arith, none))

-- the event of a block of which one leaf block is left
pub leaf_given : (outer : List Container) (content : List ℕ) (left : BlockLeft) (block : LeafBlock) → length content ≡ 0
    → left.ending ≡ 0 → length outer ≤ left.begun → 0 < length left.part.lines → block ≡ leaf_of left.kind left.part
    → GivesBlock outer content left (leaf block ∷ [])
leaf_given outer content left block nothing ended begun some is = record {
  leaves = block ∷ [];
  are_leaves = (
    λ none. omega (arith, some, ap length none),
    inr (none_in_nothing (drop left.used content) (omega (arith, nothing, length-drop left.used content)), is, refl),
  );
  given = sym (ap (λ n. replicate n ends ++ started left.front left.position (drop left.begun outer) ++ map leaf (block ∷ [])) ended
      ∙ ap (λ cs. started left.front left.position cs ++ map leaf (block ∷ [])) (drop_all left.begun outer begun));
}

-- a block has a line
pub some_line : (step : Step) → 0 < step.block.taken.bytes → 0 < length (lines_of step.lines.now)
some_line step some = by (lines_of step.lines.now) refl
  where
    by : (lines : List (List ℕ)) → lines_of step.lines.now ≡ lines → 0 < length lines
    by [] none = absurd (omega (arith, some, step.bytes, ap length (some_lines step.lines.now none)))
    by (line ∷ lines) is = omega arith
