-- Blocks that are printed, one after the other.
use Rattle.std.proofs.Common.{ℕ, zero, suc, List, [], ◌∷◌, ◌++◌, ◌+◌, ◌-◌, ◌≡◌, ◌⊎◌, inl, inr, length, take, drop}
use Rattle.std.proofs.Common.{refl, sym, ap, ◌∙◌, subst, arith, append_assoc, append-nil, length-append}
use Rattle.std.specs.Prelude.{map, replicate}
use Rattle.std.specs.List.{concat}
use Rattle.std.proofs.lemmas.List.{take-append-drop}
use Rattle.std.proofs.lemmas.List.Folds.{concat-append}
use Rattle.markdown_scanners_tree.specs.declared.scanners.reference_definitions.ReferenceDefinition.{ReferenceDefinition}
use Rattle.markdown_scanners_tree.specs.line.State.{LineState}
use Rattle.markdown_scanners_tree.specs.scanners.TextLines.{lines_of}
use Rattle.markdown_blocks.specs.containers.Containers.{Between, match_line, after_marker}
use Rattle.markdown_values.specs.declared.values.extensions.Extensions.{Extensions}
use Rattle.markdown_blocks.specs.declared.blocks.BlockKind.{BlockKind}
use Rattle.markdown_blocks.specs.declared.blocks.BlockKind.TheVariants.{Definition}
use Rattle.markdown_blocks.specs.declared.containers.Container.{Container}
use Rattle.markdown_blocks.specs.declared.step.Step.{Step}
use Rattle.markdown_blocks.specs.declared.taken.Extent.{Extent}
use Rattle.markdown_blocks.specs.definitions.Definitions.{IsDefinition}
use Rattle.markdown_blocks.specs.byte_order_mark.ByteOrderMark.{text_of, text_start}
use Rattle.markdown_blocks.specs.blocks.Pages.{Piece, IsFront, IsPage, IsPiece, AreBlocks, lines_in, root}
use Rattle.markdown_blocks.specs.events.Events.{Event, leaf, ends, LeafBlock, Part, AreLeaves, AreLeavesOf, IsEventsOf}
use Rattle.markdown_blocks.specs.events.Events.{first_lines, later_lines, leaf_of, lines_taken}
use Rattle.markdown_blocks.specs.events.Events.{open_after, part_of, piece_content, piece_events, started}
use Rattle.markdown_blocks.specs.events.Given.{GivesBlock, block_left}
use Rattle.markdown_blocks.specs.events.Shown.{AreShown, AreShownOf, IsShownOf, Shown, end_shown, events_in}
use Rattle.markdown_blocks.specs.lists.Tracked.{Tracked, at_start, closed, lists_given}
use Rattle.markdown_blocks.specs.walk.Walk.{IsStep, IsContentOf}
use Rattle.markdown_blocks.proofs.ForCallers.{events_of_nodes, page_lists, page_shown, shown_events, step_events, step_shown}
use Rattle.markdown_blocks.proofs.taken.TakenLemmas.{lines_bytes}
use Rattle.page_blocks.specs.declared.arguments.Form.{Form}
use Rattle.page_blocks.specs.Going.{GoesOnPrinting}
use Rattle.page_blocks.specs.Printed.{Place, Printed, position_of, position_after, after, after_all, ended_line, event_lines, lines_of_events}
use Rattle.page_blocks.specs.Printed.{front_of, last_lines, lines_to_end, PrintsFront, PrintsPage}

-- events that are printed one after the other
pub lines-append : (form : Form) (p : Printed) (shown later : List Shown)
    → lines_of_events form p (shown ++ later) ≡ lines_of_events form p shown ++ lines_of_events form (after_all p shown) later
lines-append form p [] later = refl
lines-append form p (one ∷ shown) later =
    ap (λ t. event_lines form p one ++ t) (lines-append form (after p one.event) shown later)
    ∙ sym (append_assoc (event_lines form p one) (lines_of_events form (after p one.event) shown) _)

pub after-append : (p : Printed) (shown later : List Shown) → after_all p (shown ++ later) ≡ after_all (after_all p shown) later
after-append p [] later = refl
after-append p (one ∷ shown) later = after-append (after p one.event) shown later

abbrev position : ℕ → ℕ → Place
position lines bytes = record { lines = lines; bytes = bytes }

-- how much of the page stands before what follows events
abbrev all_after : Place → List Event → Place
all_after at [] = at
all_after at (event ∷ later) = all_after (position_after at event) later

at-after : (p : Printed) (shown : List Shown) → (after_all p shown).at ≡ all_after p.at (events_in shown)
at-after p [] = refl
at-after p (one ∷ later) = at-after (after p one.event) later

after-ends : (count : ℕ) (at : Place) (later : List Event) → all_after at (replicate count ends ++ later) ≡ all_after at later
after-ends zero at later = refl
after-ends (suc count) at later = after-ends count at later

after-started : (cs : List Container) (start : ℕ) (s : LineState) (at : Place) (later : List Event)
    → all_after at (started start s cs ++ later) ≡ all_after at later
after-started [] start s at later = refl
after-started (c ∷ cs) start s at later = after-started cs start (after_marker s) at later

-- what stands before what follows lines
abbrev part_end : Part → Place
part_end part = position (part.line + length part.lines) (part.start + length (concat part.lines))

nothing_more : (part : Part) → part.lines ≡ [] → position part.line part.start ≡ part_end part
nothing_more part none =
    let lines : part.line ≡ part.line + length part.lines = omega (arith, ap length none) in
    let bytes : part.start ≡ part.start + length (concat part.lines) = omega (arith, ap (λ ls. length (concat ls)) none) in
    ap (λ n. position n part.start) lines ∙ ap (position (part.line + length part.lines)) bytes

-- the lines of a definition, and those after it
parted : (outer : List Container) (count : ℕ) (part : Part) → part_end (later_lines outer count part) ≡ part_end part
parted outer count part =
    let front : List (List ℕ) = take count part.lines in
    let rest : List (List ℕ) = drop count part.lines in
    let all = take-append-drop count part.lines in
    let counts : length part.lines ≡ length front + length rest = sym (ap length all) ∙ length-append front rest in
    let sizes : length (concat part.lines) ≡ length (concat front) + length (concat rest) =
    ap (λ ls. length (concat ls)) (sym all) ∙ ap length (concat-append front rest) ∙ length-append (concat front) (concat rest) in
    let lines : (part.line + length front) + length rest ≡ part.line + length part.lines = omega (arith, counts) in
    let bytes : (part.start + length (concat front)) + length (concat rest) ≡ part.start + length (concat part.lines) = omega (arith, sizes) in
    ap (λ n. position n ((part.start + length (concat front)) + length (concat rest))) lines ∙ ap (position (part.line + length part.lines)) bytes

-- a leaf block and those after it reach to the end of the lines, where these do
after-leaf : (block : LeafBlock) (more : List LeafBlock) (outer : List Container) (kind : BlockKind) (part : Part) (content : List ℕ) (at : Place)
    → ((rest : Part) (left : List ℕ) → position_after at (leaf block) ≡ position rest.line rest.start → AreLeaves outer kind rest left more
    → all_after (position_after at (leaf block)) (map leaf more) ≡ part_end rest)
    → ((definition : ReferenceDefinition) × IsDefinition content definition
    × (block ≡ leaf_of Definition (first_lines (lines_taken content definition) part))
    × AreLeaves outer kind (later_lines outer (lines_taken content definition) part) (drop definition.len content) more)
    ⊎ (((definition : ReferenceDefinition) → ¬ IsDefinition content definition) × (block ≡ leaf_of kind part) × (more ≡ []))
    → all_after (position_after at (leaf block)) (map leaf more) ≡ part_end part
after-leaf block more outer kind part content at later (inl d) =
    later (later_lines outer (lines_taken content d.0) part) (drop d.0.len content) (ap (λ (b : LeafBlock). position_after at (leaf b)) d.2) d.3
    ∙ parted outer (lines_taken content d.0) part
after-leaf block more outer kind part content at later (inr w) =
    ap (λ ls. all_after (position_after at (leaf block)) (map leaf ls)) w.2 ∙ ap (λ (b : LeafBlock). position_after at (leaf b)) w.1

-- leaf blocks of lines reach to the end of these
after-leaves : (leaves : List LeafBlock) (outer : List Container) (kind : BlockKind) (part : Part) (content : List ℕ) (at : Place)
    → at ≡ position part.line part.start → AreLeaves outer kind part content leaves → all_after at (map leaf leaves) ≡ part_end part
after-leaves [] outer kind part content at here none = here ∙ nothing_more part none
after-leaves (block ∷ more) outer kind part content at here are =
    after-leaf block more outer kind part content at
    (λ rest left now each. after-leaves more outer kind rest left (position_after at (leaf block)) now each) are.1

after-piece : (outer : List Container) (piece : Piece) (leaves : List LeafBlock) (line start : ℕ) → AreLeavesOf line start piece leaves
    → all_after (position line start) (piece_events outer start piece leaves)
    ≡ position (line + length (piece.first ∷ piece.later)) (start + length (concat (piece.first ∷ piece.later)))
after-piece outer piece leaves line start are =
    ap (all_after (position line start)) (append_assoc (replicate (length outer - length piece.kept) ends)
    (started start (match_line outer piece.first).state piece.begun) (map leaf leaves))
    ∙ after-ends (length outer - length piece.kept) (position line start) _
    ∙ after-started piece.begun start (match_line outer piece.first).state (position line start) (map leaf leaves)
    ∙ after-leaves leaves (piece.kept ++ piece.begun) piece.kind (part_of line start piece) (piece_content piece) (position line start) refl are

module _ (form : Form) (outer now : Between) (before : Extent) (lists : Tracked) (step : Step) (lines : List ℕ) (more : List (List ℕ))
    (s : IsStep outer lines more step now) (content : List ℕ) (given : List Event) (shown : List Shown) (gathered : IsContentOf step now.containers content)
    (gives : GivesBlock now.containers content (block_left step before (length outer.containers)) given) (are_shown : AreShown content given shown) where
  abbrev so_far : Printed
  so_far = record { at = position_of before; lists = lists }

  leaves_are : (leaves : List LeafBlock) × AreLeavesOf before.lines before.bytes s.piece leaves
      × (given ≡ piece_events outer.containers before.bytes s.piece leaves)
  leaves_are = step_events outer now lines more step s before content gathered given gives

  written_are : AreShown (piece_content s.piece) (piece_events outer.containers before.bytes s.piece leaves_are.0) shown
  written_are =
      subst (λ es. AreShown (piece_content s.piece) es shown) leaves_are.2 (step_shown outer now lines more step s content gathered given shown are_shown)

  -- the page is printed as far as the step's block goes
  pub step_position : (next : Printed) → next ≡ after_all so_far shown
      → next.at ≡ position (before.lines + length (s.piece.first ∷ s.piece.later)) (before.bytes + length (concat (s.piece.first ∷ s.piece.later)))
  step_position next is =
      ap (λ (p : Printed). p.at) is ∙ at-after so_far shown
      ∙ ap (all_after (position_of before)) (shown_events content given shown are_shown ∙ leaves_are.2)
      ∙ after-piece outer.containers s.piece leaves_are.0 before.lines before.bytes leaves_are.1

  pub step_size : (next : Printed) → next ≡ after_all so_far shown
      → (next.at.lines ≡ before.lines + step.block.taken.lines) × (next.at.bytes ≡ before.bytes + step.block.taken.bytes)
  step_size next is = (
    ap (λ (q : Place). q.lines) (step_position next is) ∙ ap (λ n. before.lines + n) (sym s.taken.counted),
    ap (λ (q : Place). q.bytes) (step_position next is) ∙ ap (λ n. before.bytes + n)
        (sym (lines_bytes lines step.block.taken.bytes (s.piece.first ∷ s.piece.later) s.taken.within s.taken.parts)),
  )

  left : List (List ℕ)
  left = lines_of (drop step.block.taken.bytes lines) ++ more

  front_with : (later : List Piece) (rest : List (List ℕ)) → left ≡ lines_in later ++ rest → AreBlocks now later rest
      → (lines_of lines ++ more ≡ lines_in (s.piece ∷ later) ++ rest) × AreBlocks outer (s.piece ∷ later) rest
  unfolding left
  front_with later rest is each = (
    ap (λ ls. ls ++ more) s.taken.parts ∙ append_assoc (s.piece.first ∷ s.piece.later) (lines_of (drop step.block.taken.bytes lines)) more
        ∙ ap (λ ls. (s.piece.first ∷ s.piece.later) ++ ls) is ∙ sym (append_assoc (s.piece.first ∷ s.piece.later) (lines_in later) rest),
    (subst (IsPiece outer s.piece) is s.is_piece, subst (λ o. AreBlocks o later rest) s.open_now each),
  )

  pub printing-next : (page text longer : List ℕ) (next : Printed) → next ≡ after_all so_far shown
      → longer ≡ text ++ lines_of_events form so_far shown
      → GoesOnPrinting form page text so_far outer (lines_of lines ++ more)
      → GoesOnPrinting form page longer next now (lines_of (drop step.block.taken.bytes lines) ++ more)
  unfolding GoesOnPrinting left
  printing-next page text longer next is_next prints goes later others rest is each are =
      let front = front_with later rest is each in
      let remaining = subst (λ (o : Between). AreShownOf o.containers (before.lines + length (s.piece.first ∷ s.piece.later))
      (before.bytes + length (concat (s.piece.first ∷ s.piece.later))) later others) s.open_now
      (subst (λ (q : Place). AreShownOf now.containers q.lines q.bytes later others) (step_position next is_next) are) in
      let whole = goes (s.piece ∷ later) (shown ++ others) rest front.0 front.1
      (leaves_are.0, shown, others, leaves_are.1, written_are, refl, remaining) in
      let on : now.extensions ≡ outer.extensions = ap (λ (o : Between). o.extensions) s.open_now in
      record {
        pieces = whole.pieces;
        shown = whole.shown;
        are_its_blocks = subst (λ a. IsFront a (text_of page) whole.pieces rest) (sym on) whole.are_its_blocks;
        are_their_events = whole.are_their_events;
        lines = ap (λ t. t ++ lines_of_events form next others) prints
            ∙ ap (λ (q : Printed). (text ++ lines_of_events form so_far shown) ++ lines_of_events form q others) is_next
            ∙ append_assoc text (lines_of_events form so_far shown) _
            ∙ ap (λ t. text ++ t) (sym (lines-append form so_far shown others)) ∙ whole.lines;
        so_far = ap (λ (q : Printed). after_all q others) is_next ∙ sym (after-append so_far shown others) ∙ whole.so_far;
        open_now = ap (λ (o : Between). open_after (length o.containers) later) s.open_now ∙ whole.open_now;
      }

pub printing-first : (form : Form) (page : List ℕ) (p : Printed) (outer : Between) (text : List ℕ) → p ≡ front_of (text_start page)
    → outer ≡ root outer.extensions → text ≡ [] → GoesOnPrinting form page text p outer (lines_of (text_of page))
unfolding GoesOnPrinting
printing-first form page p outer text front none empty later shown rest is each are = record {
  pieces = later;
  shown = shown;
  are_its_blocks = record { joined = sym is; each = subst (λ o. AreBlocks o later rest) none each };
  are_their_events = subst (λ (q : Printed). AreShownOf [] q.at.lines q.at.bytes later shown) front
      (subst (λ (o : Between). AreShownOf o.containers p.at.lines p.at.bytes later shown) none are);
  lines = ap (λ t. t ++ lines_of_events form p shown) empty ∙ ap (λ (q : Printed). lines_of_events form q shown) front;
  so_far = ap (λ (q : Printed). after_all q shown) front;
  open_now = ap (λ (o : Between). open_after (length o.containers) later) none;
}

-- the text, in this form, prints blocks at the front of the page
pub printing-front : (asked : Extensions) (form other : Form) (page text words : List ℕ) (p : Printed) (outer : Between) (lines : List (List ℕ))
    → form ≡ other → outer.extensions ≡ asked → text ≡ words → GoesOnPrinting form page text p outer lines → PrintsFront asked other page words
unfolding GoesOnPrinting
printing-front asked form other page text words p outer lines same on is goes =
    let whole = goes [] [] lines refl tt refl in
    subst (λ a. PrintsFront a other page words) on record {
      pieces = whole.pieces;
      rest = lines;
      shown = whole.shown;
      are_its_blocks = whole.are_its_blocks;
      are_their_events = whole.are_their_events;
      lines = sym is ∙ sym (append-nil text) ∙ whole.lines ∙ ap (λ f. lines_of_events f (front_of (text_start page)) whole.shown) same;
    }

-- the lines to the end of a page, of which the first events are printed
to_end : (form : Form) (p : Printed) (shown later : List Shown)
    → lines_of_events form p shown ++ lines_to_end form (after_all p shown) later ≡ lines_to_end form p (shown ++ later)
to_end form p shown later =
    sym (append_assoc (lines_of_events form p shown) (lines_of_events form (after_all p shown) later) _)
    ∙ ap (λ t. t ++ ended_line form (closed (after_all (after_all p shown) later).lists)) (sym (lines-append form p shown later))
    ∙ ap (λ (q : Printed). lines_of_events form p (shown ++ later) ++ ended_line form (closed q.lists)) (sym (after-append p shown later))

-- with the last lines it prints the whole page
pub printing-page : (form : Form) (page text longer : List ℕ) (p : Printed) (outer : Between)
    → longer ≡ text ++ last_lines form p (length outer.containers) → GoesOnPrinting form page text p outer [] → PrintsPage outer.extensions form page longer
unfolding GoesOnPrinting
printing-page form page text longer p outer prints goes =
    let whole = goes [] [] [] refl tt refl in
    let last : List Shown = replicate (open_after 0 whole.pieces) end_shown in
    let is_page : IsPage outer.extensions (text_of page) whole.pieces =
    record { joined = sym (append-nil _) ∙ whole.are_its_blocks.joined; each = whole.are_its_blocks.each } in
    let all : IsShownOf outer.extensions page (whole.shown ++ last) = (whole.pieces, whole.shown, is_page, whole.are_their_events, refl) in
    let are : IsEventsOf outer.extensions page (events_in (whole.shown ++ last)) = page_shown outer.extensions page (whole.shown ++ last) all in
    let nodes = events_of_nodes outer.extensions page (events_in (whole.shown ++ last)) are in
    record {
      shown = whole.shown ++ last;
      are_its_events = all;
      are_its_lists = (nodes.0, subst (IsEventsOf outer.extensions page) nodes.1 are, ap (lists_given at_start) nodes.1 ∙ page_lists nodes.0);
      lines = prints ∙ ap (λ n. text ++ last_lines form p n) whole.open_now
          ∙ ap (λ (q : Printed). text ++ lines_to_end form q last) whole.so_far
          ∙ ap (λ t. t ++ lines_to_end form (after_all (front_of (text_start page)) whole.shown) last) (sym (append-nil text) ∙ whole.lines)
          ∙ to_end form (front_of (text_start page)) whole.shown last;
    }

-- the lines of one more container's end
last_more : (form : Form) (p : Printed) (count less : ℕ) → count ≡ suc less
    → last_lines form p count ≡ event_lines form p end_shown ++ last_lines form (after p ends) less
last_more form p count less more =
    ap (last_lines form p) more
    ∙ append_assoc (event_lines form p end_shown) (lines_of_events form (after p ends) (replicate less end_shown))
    (ended_line form (closed (after_all (after p ends) (replicate less end_shown)).lists))

pub end_step : (form same : Form) (p next : Printed) (text longer all : List ℕ) (count less : ℕ) → count ≡ suc less → same ≡ form → next ≡ after p ends
    → longer ≡ text ++ event_lines form p end_shown → text ++ last_lines form p count ≡ all → longer ++ last_lines same next less ≡ all
end_step form same p next text longer all count less more form_is next_is prints whole =
    ap (λ t. t ++ last_lines same next less) prints
    ∙ append_assoc text (event_lines form p end_shown) (last_lines same next less)
    ∙ ap (λ f. text ++ (event_lines form p end_shown ++ last_lines f next less)) form_is
    ∙ ap (λ (q : Printed). text ++ (event_lines form p end_shown ++ last_lines form q less)) next_is
    ∙ ap (λ t. text ++ t) (sym (last_more form p count less more)) ∙ whole
