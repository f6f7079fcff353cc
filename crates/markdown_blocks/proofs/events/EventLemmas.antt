-- Each event that is given goes before those that the page gives from there.
use Rattle.std.proofs.Common.{ℕ, suc, Bool, true, false, List, [], ◌∷◌, ◌++◌, ◌+◌, ◌-◌, ◌<◌, ◌≤◌, ◌≡◌, ◌⊎◌, inl, inr, Option, Some, None, length, take, drop}
use Rattle.std.proofs.Common.{refl, sym, ap, ◌∙◌, subst, arith, length-append}
use Rattle.std.specs.Prelude.{map, replicate}
use Rattle.std.specs.List.{concat}
use Rattle.std.specs.Option.{option_map}
use Rattle.std.proofs.lemmas.List.{drop_at, length-take}
use Rattle.markdown_scanners_tree.specs.scanners.TextLines.{lines_of}
use Rattle.markdown_blocks.specs.byte_order_mark.ByteOrderMark.{text_start}
use Rattle.markdown_blocks.proofs.blocks.OneText.{one_page}
use Rattle.markdown_blocks.proofs.block_events.GivenLemmas.{none_given}
use Rattle.markdown_blocks.proofs.events.OneEvents.{one_list_of_blocks}
use Rattle.markdown_blocks.proofs.definitions.DefinitionLemmas.{no_text}
use Rattle.markdown_blocks.proofs.taken.TakenLemmas.{lines_bytes}
use Rattle.markdown_blocks.specs.containers.Containers.{Between, Rest, match_line, last_past_first_line}
use Rattle.markdown_blocks.specs.declared.blocks.BlockKind.{BlockKind}
use Rattle.markdown_values.specs.declared.values.extensions.Extensions.{Extensions}
use Rattle.markdown_blocks.specs.declared.containers.Container.{Container}
use Rattle.markdown_blocks.specs.declared.step.Step.{Step}
use Rattle.markdown_blocks.specs.declared.taken.Extent.{Extent}
use Rattle.markdown_blocks.specs.blocks.Pages.{Piece, IsPiece, AreBlocks, kept_by, lines_in, root}
use Rattle.markdown_blocks.specs.events.Events.{Event, leaf, ends, LeafBlock, Part, AreLeaves, AreLeavesOf, part_of, piece_content}
use Rattle.markdown_blocks.specs.events.Events.{started, piece_events, AreEvents, open_after, IsEventsOf}
use Rattle.markdown_blocks.specs.events.Given.{BlockLeft, GivesBlock, block_left, block_events_left, Pending, Left, Gives}
use Rattle.markdown_blocks.specs.definitions.Content.{content_in}
use Rattle.markdown_blocks.specs.definitions.Definitions.{IsDefinition}
use Rattle.markdown_blocks.specs.walk.Walk.{IsStep, IsGathered, IsContentOf, rest_of}

-- no piece is left where no line is
no_piece : (pieces : List Piece) → lines_in pieces ≡ [] → pieces ≡ []
no_piece [] none = refl
no_piece (piece ∷ pieces) none = cc

-- settling takes no container away
pub kept_fewer : (outer : List Container) → length (last_past_first_line outer) ≡ length outer
kept_fewer [] = refl
kept_fewer (c ∷ []) = refl
kept_fewer (c ∷ d ∷ outer) = ap suc (kept_fewer (d ∷ outer))

-- a line goes on with no more containers than are open
pub kept_few_by : (header : Bool) (before : Between) (line : List ℕ) → length (kept_by header before line) ≤ length before.containers
kept_few_by true before line = omega arith
kept_few_by false before line =
    let count = (match_line before.containers line).kept in
    omega (arith, kept_fewer (take count before.containers), length-take count before.containers)

-- what is gathered of a content shows its leaf blocks
gathered_leaves : (outer : List Container) (kind : BlockKind) (part : Part) (content gathered : List ℕ) (leaves : List LeafBlock)
    → IsGathered content gathered → AreLeaves outer kind part gathered leaves → AreLeaves outer kind part content leaves
gathered_leaves outer kind part content gathered leaves (inl whole) are = subst (λ t. AreLeaves outer kind part t leaves) whole are
gathered_leaves outer kind part content gathered [] (inr plain) are = are
gathered_leaves outer kind part content gathered (block ∷ more) (inr plain) (some, inl found) =
    absurd (no_text found.0 (subst (λ t. IsDefinition t found.0) plain.0 found.1))
gathered_leaves outer kind part content gathered (block ∷ more) (inr plain) (some, inr own) = (some, inr (plain.1, own.1, own.2))

module _ (text : List ℕ) (asked : Extensions) (containers : List Container) (term paragraph : Bool) (line start : ℕ) where
  abbrev at : ℕ → Option Pending → Left
  at begun next = record {
    text = text;
    extensions = asked;
    containers = containers;
    term = term;
    paragraph = paragraph;
    begun = begun;
    line = line;
    start = start;
    next = next;
  }

  -- an event of the block that is read, and the rest of its events
  pub block_event : (begun then : ℕ) (content : List ℕ) (old new : BlockLeft) (event : Event)
      → ((later : List Event) → GivesBlock containers content new later → GivesBlock containers content old (event ∷ later)) → (events : List Event)
      → Gives (at then (Some (record { block = new; content = content }))) events
      → Gives (at begun (Some (record { block = old; content = content }))) (event ∷ events)
  block_event begun then content old new event more events g = record {
    pieces = g.pieces;
    joined = g.joined;
    each = g.each;
    pending = event ∷ g.pending;
    is_pending = more g.pending g.is_pending;
    blocks = g.blocks;
    are_events = g.are_events;
    given = ap (λ es. event ∷ es) g.given;
  }

  -- the last event of that block
  pub last_event : (begun : ℕ) (content : List ℕ) (old new : BlockLeft) (event : Event)
      → ((later : List Event) → GivesBlock containers content new later → GivesBlock containers content old (event ∷ later))
      → block_events_left containers new ≡ 0 → (events : List Event) → Gives (at (length containers) None) events
      → Gives (at begun (Some (record { block = old; content = content }))) (event ∷ events)
  last_event begun content old new event more none events g = record {
    pieces = g.pieces;
    joined = g.joined;
    each = g.each;
    pending = event ∷ [];
    is_pending = more [] (none_given containers content new (omega (arith, none)) (omega (arith, none)) (no_lines new.part.lines (omega (arith, none))));
    blocks = g.blocks;
    are_events = g.are_events;
    given = ap (λ es. event ∷ es) (g.given
        ∙ ap (λ es. es ++ g.blocks ++ replicate (open_after (length containers) g.pieces) ends) g.is_pending);
  }
    where
      no_lines : (lines : List (List ℕ)) → length lines ≡ 0 → lines ≡ []
      no_lines [] few = refl
      no_lines (l ∷ lines) few = absurd (omega (arith, few))

  -- what is left at the end of the page
  all_ended : (begun : ℕ) → text ≡ [] → (events : List Event) → Gives (at begun None) events → events ≡ replicate begun ends
  all_ended begun last events g =
      let none : g.pieces ≡ [] = no_piece g.pieces (g.joined ∙ ap lines_of last) in
      let no_blocks : g.blocks ≡ [] = subst (λ ps. AreEvents containers line start ps g.blocks) none g.are_events in
      g.given ∙ ap (λ es. es ++ g.blocks ++ replicate (open_after begun g.pieces) ends) g.is_pending
      ∙ ap (λ es. es ++ replicate (open_after begun g.pieces) ends) no_blocks ∙ ap (λ ps. replicate (open_after begun ps) ends) none

  pub ended_page : (begun : ℕ) → text ≡ [] → Gives (at begun None) (replicate begun ends)
  ended_page begun last = record {
    pieces = [];
    joined = sym (ap lines_of last);
    each = tt;
    pending = [];
    is_pending = refl;
    blocks = [];
    are_events = refl;
    given = refl;
  }

  pub no_event : (begun : ℕ) → begun ≡ 0 → text ≡ [] → Gives (at begun None) []
  no_event begun none last = subst (λ es. Gives (at begun None) es) (ap (λ n. replicate n ends) none) (ended_page begun last)

  -- a container ends there
  pub end_event : (begun less : ℕ) → begun ≡ suc less → text ≡ [] → (events : List Event) → Gives (at less None) events
      → Gives (at begun None) (ends ∷ events)
  end_event begun less more last events g =
      let all : ends ∷ events ≡ replicate begun ends =
      ap (λ es. ends ∷ es) (all_ended less last events g) ∙ ap (λ n. replicate n ends) (sym more) in
      subst (λ es. Gives (at begun None) es) (sym all) (ended_page begun last)

module _ (old new : Between) (lines : List ℕ) (more : List (List ℕ)) (step : Step) (s : IsStep old lines more step new) where
  begun_is : drop step.kept new.containers ≡ s.piece.begun
  begun_is = ap (λ (o : Between). drop step.kept o.containers) s.open_now ∙ drop_at s.piece.kept s.piece.begun step.kept (sym s.counted)

  -- what is gathered is of the content of its piece
  pub piece_gathered : (content : List ℕ) → IsContentOf step new.containers content → IsGathered (piece_content s.piece) content
  piece_gathered content c =
      subst (λ (w : Rest). IsGathered (content_in s.piece.kind (s.piece.kept ++ s.piece.begun) w.text s.piece.later) content) (sym s.words)
      (subst (λ k. IsGathered (content_in k (s.piece.kept ++ s.piece.begun) step.text.now s.piece.later) content) (sym s.kind)
      (subst (λ (o : Between). IsGathered (content_in step.block.kind o.containers step.text.now s.piece.later) content) s.open_now
      (c s.piece.first s.piece.later s.all)))

  module _ (before : Extent) (content : List ℕ) (c : IsContentOf step new.containers content) where
    -- the leaf blocks of the step are those of its piece
    piece_leaves : (leaves : List LeafBlock) → AreLeaves new.containers step.block.kind (block_left step before (length old.containers)).part content leaves
        → AreLeavesOf before.lines before.bytes s.piece leaves
    piece_leaves leaves are =
        let part_is : (block_left step before (length old.containers)).part ≡ part_of before.lines before.bytes s.piece =
        ap (λ ls. the_part (rest_of step) ls) s.all ∙ ap (λ w. the_part w (s.piece.first ∷ s.piece.later)) (sym s.words) in
        gathered_leaves (s.piece.kept ++ s.piece.begun) s.piece.kind (part_of before.lines before.bytes s.piece) (piece_content s.piece) content leaves
        (piece_gathered content c)
        (subst (λ p. AreLeaves (s.piece.kept ++ s.piece.begun) s.piece.kind p content leaves) part_is
        (subst (λ k. AreLeaves (s.piece.kept ++ s.piece.begun) k (block_left step before (length old.containers)).part content leaves) (sym s.kind)
        (subst (λ (o : Between). AreLeaves o.containers step.block.kind (block_left step before (length old.containers)).part content leaves) s.open_now are)))
      where
        the_part : Rest → List (List ℕ) → Part
        the_part words lines = record { line = before.lines; start = before.bytes; words = words; lines = lines }

    -- its events are
    piece_given : (events : List Event) → (g : GivesBlock new.containers content (block_left step before (length old.containers)) events)
        → events ≡ piece_events old.containers before.bytes s.piece g.leaves
    piece_given events g =
        g.given
        ∙ ap (λ n. replicate (length old.containers - n) ends ++ started before.bytes step.start (drop step.kept new.containers) ++ map leaf g.leaves) s.counted
        ∙ ap (λ cs. replicate (length old.containers - length s.piece.kept) ends ++ started before.bytes step.start cs ++ map leaf g.leaves) begun_is
        ∙ ap (λ p. replicate (length old.containers - length s.piece.kept) ends ++ started before.bytes p s.piece.begun ++ map leaf g.leaves) s.offset

    pub step_events : (events : List Event) → GivesBlock new.containers content (block_left step before (length old.containers)) events
        → (leaves : List LeafBlock) × AreLeavesOf before.lines before.bytes s.piece leaves
        × (events ≡ piece_events old.containers before.bytes s.piece leaves)
    step_events events g = (g.leaves, piece_leaves g.leaves g.are_leaves, piece_given events g)

module _ (old new : Between) (lines : List ℕ) (step : Step) (s : IsStep old lines [] step new) where
  -- the first line goes on with containers that were open, and they stay open
  pub step_kept : (step.kept ≤ length old.containers) × (step.kept ≤ length new.containers)
  step_kept =
      let counted = s.counted in
      let here = ap length s.is_piece.opened.goes_on in
      let few = kept_few_by s.piece.header old s.piece.first in
      let longer : length new.containers ≡ length s.piece.kept + length s.piece.begun = ap (λ (o : Between). length o.containers) s.open_now
      ∙ length-append s.piece.kept s.piece.begun in
      (omega (arith, counted, here, few), omega (arith, counted, longer))

  module _ (before : Extent) (content : List ℕ) (c : IsContentOf step new.containers content) where
    -- the block that is read
    pub block_read : (begun : ℕ) (text : List ℕ) → begun ≡ length old.containers → text ≡ drop step.block.taken.bytes lines → (events : List Event)
        → Gives (record {
          text = text;
          extensions = new.extensions;
          containers = new.containers;
          term = new.term;
          paragraph = new.paragraph;
          begun = begun;
          line = before.lines + step.block.taken.lines;
          start = before.bytes + step.block.taken.bytes;
          next = Some (record { block = block_left step before begun; content = content });
        }) events
        → Gives (record {
          text = lines;
          extensions = old.extensions;
          containers = old.containers;
          term = old.term;
          paragraph = old.paragraph;
          begun = begun;
          line = before.lines;
          start =
              before.bytes;
          next = None;
        }) events
    block_read begun text open_before after_is events given_then =
        let line_now = before.lines + step.block.taken.lines in
        let start_now = before.bytes + step.block.taken.bytes in
        let g = subst (λ n. Gives (record {
          text = text;
          extensions = new.extensions;
          containers = new.containers;
          term = new.term;
          paragraph = new.paragraph;
          begun = begun;
          line = line_now;
          start = start_now;
          next = Some (record { block = block_left step before n; content = content });
        }) events) open_before given_then in
        let later : lines_in g.pieces ≡ lines_of (drop step.block.taken.bytes lines) = g.joined ∙ ap lines_of after_is in
        let block = g.is_pending in
        let bytes = lines_bytes lines step.block.taken.bytes (s.piece.first ∷ s.piece.later) s.taken.within s.taken.parts in
        let line_then : line_now ≡ before.lines + length (s.piece.first ∷ s.piece.later) = ap (λ n. before.lines + n) s.taken.counted in
        let start_then : start_now ≡ before.bytes + length (concat (s.piece.first ∷ s.piece.later)) = ap (λ n. before.bytes + n) bytes in
        record {
          pieces = s.piece ∷ g.pieces;
          joined = ap (λ ls. (s.piece.first ∷ s.piece.later) ++ ls) later ∙ sym s.taken.parts;
          each = (
            subst (λ ls. IsPiece old s.piece (ls ++ [])) (sym later) s.is_piece,
            subst (λ o. AreBlocks o g.pieces []) s.open_now g.each,
          );
          pending = [];
          is_pending = refl;
          blocks = g.pending ++ g.blocks;
          are_events = (
            block.leaves,
            g.blocks,
            piece_leaves old new lines [] step s before content c block.leaves block.are_leaves,
            ap (λ es. es ++ g.blocks) (piece_given old new lines [] step s before content c g.pending block),
            subst (λ n. AreEvents (s.piece.kept ++ s.piece.begun) n (before.bytes + length (concat (s.piece.first ∷ s.piece.later))) g.pieces g.blocks)
                line_then
                (subst (λ n. AreEvents (s.piece.kept ++ s.piece.begun) line_now n g.pieces g.blocks) start_then
                (subst (λ (o : Between). AreEvents o.containers line_now start_now g.pieces g.blocks) s.open_now g.are_events)),
          );
          given = g.given ∙ ap (λ (o : Between). (g.pending ++ g.blocks) ++ replicate (open_after (length o.containers) g.pieces) ends) s.open_now;
        }

-- nothing is read
pub none_read : {A B : Type 0} (f : A → B) (next : Option A) → option_map f next ≡ None → next ≡ None
none_read f None none = refl
none_read {A} {B} f (Some x) none = let both : ◌≡◌ {A = Option B} (Some (f x)) None = none in cc

-- all containers have begun where a block is left
pub all_begun : (begun open_now bytes : ℕ) (rest : List ℕ) → (begun ≡ open_now) ⊎ (rest ≡ []) → 0 < bytes → bytes ≤ length rest → begun ≡ open_now
all_begun begun open_now bytes rest (inl all) some within = all
all_begun begun open_now bytes rest (inr none) some within = absurd (omega (arith, some, within, ap length none))

-- a page has one list of events
pub one_list_of_events : (asked : Extensions) (page : List ℕ) (events others : List Event) → IsEventsOf asked page events
    → IsEventsOf asked page others → events ≡ others
one_list_of_events asked page events others h h' =
    let pieces = one_page (root asked) h.0 h'.0 (h.2.joined ∙ sym h'.2.joined) h.2.each h'.2.each in
    let start = text_start page in
    let blocks = one_list_of_blocks [] 0 start h'.0 h.1 h'.1 (subst (λ ps. AreEvents [] 0 start ps h.1) pieces h.3) h'.3 in
    h.4 ∙ ap (λ es. es ++ replicate (open_after 0 h.0) ends) blocks ∙ ap (λ ps. h'.1 ++ replicate (open_after 0 ps) ends) pieces ∙ sym h'.4
