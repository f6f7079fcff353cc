-- The leaf blocks of a page that is UTF-8 stand in it, as its events are followed one after another.
use Rattle.std.proofs.Common.{ℕ, zero, suc, ◌+◌, ◌-◌, ◌<◌, ◌≡◌, Bool, true, false, List, [], ◌∷◌, ◌++◌, length, map, replicate, Option, Some, None, inl, inr, arith}
use Rattle.std.proofs.Common.{append-nil, append_assoc, drop, subst, sym}
use Rattle.std.specs.Prelude.{⊤}
use Rattle.std.specs.List.{concat}
use Rattle.std.specs.Str.{IsUtf8}
use Rattle.std.proofs.lemmas.Bool.Decides.{nat_tests}
use Rattle.markdown_scanners_tree.specs.line.State.{LineState}
use Rattle.markdown_scanners_tree.specs.scanners.Fences.{is_fence_byte}
use Rattle.markdown_blocks.specs.byte_order_mark.ByteOrderMark.{text_start}
use Rattle.markdown_blocks.specs.blocks.Leaves.{IsLeaf, IsLeafAfter}
use Rattle.markdown_blocks.specs.blocks.Pages.{AreBlocks, Piece, lines_in, opened_by, outer_of, root}
use Rattle.markdown_blocks.specs.containers.Containers.{Between, OpenContainers, Rest, after_marker, match_line, past_first_line}
use Rattle.markdown_blocks.specs.declared.blocks.BlockKind.{BlockKind}
use Rattle.markdown_blocks.specs.declared.blocks.BlockKind.TheVariants.{Blank, Break, Heading, Setext, Indented, Fenced, Html, Paragraph, Definition, Table}
use Rattle.markdown_values.specs.declared.values.extensions.Extensions.{Extensions}
use Rattle.markdown_blocks.specs.declared.containers.Container.{Container}
use Rattle.markdown_blocks.specs.events.Events.{AreEvents, AreLeaves, Event, IsEventsOf, LeafBlock, Part, block_end, ends, leaf, open_after}
use Rattle.markdown_blocks.specs.events.Events.{later_lines, lines_taken, part_of, piece_content, started, starts}
use Rattle.markdown_blocks.specs.first_blocks.Waiting.{waiting_next}
use Rattle.markdown_blocks.specs.laws.Characters.{AreCutOut}
use Rattle.markdown_blocks.specs.laws.FirstTexts.{FirstsBeginPlain}
use Rattle.markdown_blocks.specs.laws.Order.{ContentsStand, passed_after}
use Rattle.markdown_blocks.specs.lists.Lists.{Nodes, nothing, leaf_then, container_then, flatten}
use Rattle.markdown_blocks.proofs.ForCallers.{events_of_nodes, page_contents_stand, page_cut_out, page_firsts_begin_plain}
use Rattle.markdown_events.specs.page.InPage.{AreInPage, HasAsciiFence, IsInPage}
use Rattle.markdown_events.specs.page.OpenElements.{OpenElements, begun, ended, passed}
use Rattle.markdown_events.proofs.page.TreeLemmas.{front_of}

-- ---- fences are of ASCII

-- each fence among the events is
abbrev HaveFences : List Event → Type 0
HaveFences [] = ⊤
HaveFences (starts container before ∷ later) = HaveFences later
HaveFences (leaf block ∷ later) = HasAsciiFence block.kind × HaveFences later
HaveFences (ends ∷ later) = HaveFences later

both_have : (events more : List Event) → HaveFences events → HaveFences more → HaveFences (events ++ more)
both_have [] more have later = later
both_have (starts container before ∷ events) more have later = both_have events more have later
both_have (leaf block ∷ events) more have later = (have.0, both_have events more have.1 later)
both_have (ends ∷ events) more have later = both_have events more have later

ends_have : (count : ℕ) → HaveFences (replicate count ends)
ends_have zero = tt
ends_have (suc count) = ends_have count

started_have : (start : ℕ) (s : LineState) (containers : List Container) → HaveFences (started start s containers)
started_have start s [] = tt
started_have start s (c ∷ inner) = started_have start (after_marker s) inner

fence_low : (byte : ℕ) → is_fence_byte byte ≡ true → byte < 128
fence_low byte is = grind (arith, nat_tests)

kind_has : (outer : OpenContainers) (kind : BlockKind) (first : Rest) (later rest : List (List ℕ)) → IsLeaf outer kind first later rest → HasAsciiFence kind
kind_has outer Blank first later rest is = tt
kind_has outer Break first later rest is = tt
kind_has outer (Heading level) first later rest is = tt
kind_has outer (Setext level) first later rest is = tt
kind_has outer Indented first later rest is = tt
kind_has outer (Fenced count byte) first later rest is = fence_low byte is.0.2.of_fence_byte
kind_has outer (Html kind) first later rest is = tt
kind_has outer Paragraph first later rest is = tt
kind_has outer Definition first later rest is = tt
kind_has outer (Table columns) first later rest is = tt

-- and where the block's first line goes on with the paragraph before it
kind_has_after : (header : Bool) (outer : OpenContainers) (kind : BlockKind) (first : Rest) (later rest : List (List ℕ))
    → IsLeafAfter header outer kind first later rest → HasAsciiFence kind
kind_has_after false outer kind first later rest is = kind_has outer kind first later rest is
kind_has_after true outer (Fenced count byte) first later rest is = absurd is
kind_has_after true outer Blank first later rest is = tt
kind_has_after true outer Break first later rest is = tt
kind_has_after true outer (Heading level) first later rest is = tt
kind_has_after true outer (Setext level) first later rest is = tt
kind_has_after true outer Indented first later rest is = tt
kind_has_after true outer (Html kind) first later rest is = tt
kind_has_after true outer Paragraph first later rest is = tt
kind_has_after true outer Definition first later rest is = tt
kind_has_after true outer (Table columns) first later rest is = tt

leaves_have : (outer : List Container) (kind : BlockKind) (part : Part) (content : List ℕ) (leaves : List LeafBlock) → HasAsciiFence kind
    → AreLeaves outer kind part content leaves → HaveFences (map leaf leaves)
leaves_have outer kind part content [] own are = tt
leaves_have outer kind part content (block ∷ more) own (some, inl (definition, is, first, later)) = (
  subst (λ (b : LeafBlock). HasAsciiFence b.kind) (sym first) tt,
  leaves_have outer kind (later_lines outer (lines_taken content definition) part) (drop definition.len content) more own later,
)
leaves_have outer kind part content (block ∷ more) own (some, inr (none, only, last)) = (
  subst (λ (b : LeafBlock). HasAsciiFence b.kind) (sym only) own,
  subst (λ (m : List LeafBlock). HaveFences (map leaf m)) (sym last) tt,
)

pieces_have : (pieces : List Piece) (before : Between) (line start : ℕ) (events : List Event) → AreBlocks before pieces []
    → AreEvents before.containers line start pieces events → HaveFences events
pieces_have [] before line start events each are = subst HaveFences (sym are) tt
pieces_have (piece ∷ later) before line start events each (leaves, more, are, is, after) =
    let gone = replicate (length before.containers - length piece.kept) ends in
    let new = started start (match_line before.containers piece.first).state piece.begun in
    let own = kind_has_after piece.header (outer_of before piece) piece.kind piece.words piece.later (lines_in later ++ []) each.0.leaf in
    let held = leaves_have (piece.kept ++ piece.begun) piece.kind (part_of line start piece) (piece_content piece) leaves own are in
    subst HaveFences (sym is)
    (both_have (gone ++ new ++ map leaf leaves) more
    (both_have (gone ++ new) (map leaf leaves)
    (both_have gone new (ends_have (length before.containers - length piece.kept))
    (started_have start (match_line before.containers piece.first).state piece.begun))
    held)
    (pieces_have later (opened_by before piece) (line + length (piece.first ∷ piece.later))
    (start + length (concat (piece.first ∷ piece.later))) more each.1 after))

page_fences : (asked : Extensions) (page : List ℕ) (events : List Event) → IsEventsOf asked page events → HaveFences events
page_fences asked page events (pieces, blocks, is_page, are, is) =
    subst HaveFences (sym is)
    (both_have blocks (replicate (open_after 0 pieces) ends) (pieces_have pieces (root asked) 0 (text_start page) blocks is_page.each are)
    (ends_have (open_after 0 pieces)))

-- ---- the leaf blocks

module _ (page : List ℕ) where
  -- what is known of the events that follow
  record AreKnown (waiting : Option Container) (events : List Event) : Type 0 where
    cut : AreCutOut page events
    fences : HaveFences events
    plain : FirstsBeginPlain waiting events

  nodes_in : (nodes : Nodes) (outer : List Container) (kept passed : ℕ) (waiting : Option Container) (rest : List Event)
      → ContentsStand page outer kept passed nodes → AreKnown waiting (flatten nodes ++ rest)
      → ((then : ℕ) (last : Option Container) → AreKnown last rest → AreInPage page outer then last rest)
      → AreInPage page outer kept waiting (flatten nodes ++ rest)
  nodes_in nothing outer kept passed waiting rest stand known follow = follow kept waiting known
  nodes_in (leaf_then block later) outer kept passed waiting rest stand known follow = (
    record { cut_out = known.cut.0; fence = known.fences.0; text = stand.1; plain = known.plain.0 },
    nodes_in later outer (length outer) (block_end block) (waiting_next waiting (leaf block)) rest stand.2
        (record { cut = known.cut.1; fences = known.fences.1; plain = known.plain.1 }) follow,
  )
  nodes_in (container_then container before inner later) outer kept passed waiting rest stand known follow =
      let parted = append_assoc (flatten inner) (ends ∷ flatten later) rest in
      let within = outer ++ past_first_line container ∷ [] in
      subst (AreInPage page within kept (Some container)) (sym parted)
      (nodes_in inner within kept (suc before) (Some container) (ends ∷ (flatten later ++ rest)) stand.0
      (record {
        cut = subst (AreCutOut page) parted known.cut.1;
        fences = subst HaveFences parted known.fences;
        plain = subst (FirstsBeginPlain (Some container)) parted known.plain;
      })
      (λ then last more. subst (λ (around : List Container). AreInPage page around (length around) None (flatten later ++ rest))
      (sym (front_of outer (past_first_line container)))
      (nodes_in later outer (length outer) (passed_after (suc before) inner) None rest stand.1
      (record { cut = more.cut; fences = more.fences; plain = more.plain }) follow)))

-- Each leaf block of a page stands in it.
pub page_leaves_in : (asked : Extensions) (page : List ℕ) (events : List Event) → IsEventsOf asked page events → IsUtf8 page
    → AreInPage page [] 0 None events
page_leaves_in asked page events of_page utf8 =
    let tree = events_of_nodes asked page events of_page in
    let nodes = tree.0 in
    let are = subst (IsEventsOf asked page) tree.1 of_page in
    let all = sym (append-nil (flatten nodes)) in
    subst (AreInPage page [] 0 None) (sym tree.1)
    (subst (AreInPage page [] 0 None) (append-nil (flatten nodes))
    (nodes_in page nodes [] 0 (text_start page) None [] (page_contents_stand asked page nodes are)
    (record {
      cut = subst (AreCutOut page) all (page_cut_out asked page (flatten nodes) are utf8);
      fences = subst HaveFences all (page_fences asked page (flatten nodes) are);
      plain = subst (FirstsBeginPlain None) all (page_firsts_begin_plain asked page (flatten nodes) are);
    }) (λ then last known. tt)))

-- ---- one event

module _ (page : List ℕ) (old : OpenElements) (blocks : List Event) (stand : AreInPage page old.containers old.kept old.waiting blocks) where
  -- the next leaf block
  pub first_in : (block : LeafBlock) → blocks ≡ leaf block ∷ drop 1 blocks → IsInPage page old.containers old.kept old.waiting block
  first_in block next = (subst (AreInPage page old.containers old.kept old.waiting) next stand).0

  module _ (new : OpenElements) (later : List Event) (is_later : later ≡ drop 1 blocks) where
    in_new : (s : OpenElements) → new ≡ s → AreInPage page s.containers s.kept s.waiting (drop 1 blocks)
        → AreInPage page new.containers new.kept new.waiting later
    in_new s is rest =
        subst (λ (n : OpenElements). AreInPage page n.containers n.kept n.waiting later) (sym is)
        (subst (AreInPage page s.containers s.kept s.waiting) (sym is_later) rest)

    pub begun_in : (container : Container) (before : ℕ) → blocks ≡ starts container before ∷ drop 1 blocks → new ≡ begun container before old
        → AreInPage page new.containers new.kept new.waiting later
    begun_in container before next is =
        in_new (begun container before old) is (subst (AreInPage page old.containers old.kept old.waiting) next stand)

    pub passed_in : (block : LeafBlock) → blocks ≡ leaf block ∷ drop 1 blocks → new ≡ passed block old
        → AreInPage page new.containers new.kept new.waiting later
    passed_in block next is = in_new (passed block old) is (subst (AreInPage page old.containers old.kept old.waiting) next stand).1

    pub ended_in : blocks ≡ ends ∷ drop 1 blocks → new ≡ ended old → AreInPage page new.containers new.kept new.waiting later
    ended_in next is = in_new (ended old) is (subst (AreInPage page old.containers old.kept old.waiting) next stand)
