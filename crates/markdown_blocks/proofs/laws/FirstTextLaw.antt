-- The text of a paragraph that is the first block of a container begins with neither a space nor a tab.
use Rattle.std.proofs.Common.{ℕ, zero, suc, ◌+◌, ◌-◌, ◌<◌, ◌≡◌, ◌∙◌, Bool, true, false, List, [], ◌∷◌, ◌++◌, length, map, replicate, Option, Some, None}
use Rattle.std.proofs.Common.{inl, inr, refl, ap, arith, subst, sym, if◌then◌else◌}
use Rattle.std.specs.List.{concat, prefix_len}
use Rattle.markdown_scanners_tree.specs.Bytes.{is_space_or_tab}
use Rattle.markdown_scanners_tree.specs.line.State.{LineState, space_within}
use Rattle.markdown_blocks.specs.byte_order_mark.ByteOrderMark.{text_start}
use Rattle.markdown_blocks.specs.blocks.Pages.{AreBlocks, IsPiece, Piece, is_blank_kind, opened_by, outer_of, root}
use Rattle.markdown_blocks.specs.containers.Containers.{Between, Rest, after_marker, match_line}
use Rattle.markdown_blocks.specs.declared.blocks.BlockKind.{BlockKind}
use Rattle.markdown_blocks.specs.declared.blocks.BlockKind.TheVariants.{Paragraph}
use Rattle.markdown_values.specs.declared.values.extensions.Extensions.{Extensions}
use Rattle.markdown_blocks.specs.declared.containers.Container.{Container}
use Rattle.markdown_blocks.specs.events.Events.{AreEvents, AreLeaves, Event, IsEventsOf, LeafBlock, Part, ends, leaf, leaf_of, open_after, part_of}
use Rattle.markdown_blocks.specs.events.Events.{piece_content, started}
use Rattle.markdown_blocks.specs.first_blocks.Waiting.{waiting_next}
use Rattle.markdown_blocks.specs.laws.FirstTexts.{BeginsPlain, FirstsBeginPlain}
use Rattle.markdown_blocks.proofs.blocks.AfterLemmas.{paragraph_leaf}
use Rattle.markdown_blocks.proofs.content.PlainFront.{plain_front}
use Rattle.markdown_blocks.proofs.lists.PageLemmas.{regroup}

-- whatever container has no block yet
abbrev AreAnyhow : List Event → Type 0
AreAnyhow events = (waiting : Option Container) → FirstsBeginPlain waiting events

ends_plain : (count : ℕ) (rest : List Event) → AreAnyhow rest → AreAnyhow (replicate count ends ++ rest)
ends_plain zero rest plain waiting = plain waiting
ends_plain (suc count) rest plain waiting = ends_plain count rest plain None

all_ended : (count : ℕ) → AreAnyhow (replicate count ends)
all_ended zero waiting = tt
all_ended (suc count) waiting = all_ended count None

started_plain : (start : ℕ) (s : LineState) (containers : List Container) (rest : List Event) → AreAnyhow rest
    → AreAnyhow (started start s containers ++ rest)
started_plain start s [] rest plain waiting = plain waiting
started_plain start s (c ∷ inner) rest plain waiting = started_plain start (after_marker s) inner rest plain (Some c)

none_waits : (block : LeafBlock) → waiting_next None (leaf block) ≡ None
none_waits block = by (is_blank_kind block.kind)
  where
    by : (k : Bool) → ◌≡◌ {A = Option Container} (if k then None else None) None
    by true = refl
    by false = refl

-- blocks that are not the first
later_plain : (leaves : List LeafBlock) (rest : List Event) → AreAnyhow rest → FirstsBeginPlain None (map leaf leaves ++ rest)
later_plain [] rest plain = plain None
later_plain (block ∷ leaves) rest plain =
    (tt, subst (λ w. FirstsBeginPlain w (map leaf leaves ++ rest)) (sym (none_waits block)) (later_plain leaves rest plain))

begins_so : (waiting : Option Container) (block : LeafBlock) → (block.kind ≡ Paragraph → prefix_len is_space_or_tab block.text ≡ 0)
    → BeginsPlain waiting block
begins_so None block plain = tt
begins_so (Some container) block plain = plain

leaves_plain : (outer : List Container) (kind : BlockKind) (leaves : List LeafBlock) (part : Part) (content : List ℕ) (rest : List Event)
    → AreLeaves outer kind part content leaves → (kind ≡ Paragraph → prefix_len is_space_or_tab part.words.text ≡ 0) → AreAnyhow rest
    → AreAnyhow (map leaf leaves ++ rest)
leaves_plain outer kind [] part content rest none own plain waiting = plain waiting
leaves_plain outer kind (block ∷ more) part content rest (some, inl (definition, is, first, later)) own plain waiting =
    subst (λ b. FirstsBeginPlain waiting (leaf b ∷ map leaf more ++ rest)) (sym first)
    (begins_so waiting _ (λ other. absurd (cc)), later_plain more rest plain)
leaves_plain outer kind (block ∷ more) part content rest (some, inr (none, only, last)) own plain waiting =
    subst (λ b. FirstsBeginPlain waiting (leaf b ∷ map leaf more ++ rest)) (sym only) (
      begins_so waiting (leaf_of kind part) own,
      subst (λ (m : List LeafBlock). FirstsBeginPlain (waiting_next waiting (leaf (leaf_of kind part))) (map leaf m ++ rest)) (sym last)
          (plain (waiting_next waiting (leaf (leaf_of kind part)))),
    )

-- the text of a paragraph
paragraph_plain : (before : Between) (piece : Piece) (rest : List (List ℕ)) → IsPiece before piece rest → piece.kind ≡ Paragraph
    → prefix_len is_space_or_tab piece.words.text ≡ 0
paragraph_plain before piece rest is paragraph =
    let leaf_is = (paragraph_leaf piece.header (outer_of before piece) piece.kind piece.words piece.later rest paragraph is.leaf).1 in
    let words = is.opened.is_rest in
    let few : space_within 4 is.opened.position < 4 = fewer (ap (λ (w : Rest). w.indent) words) leaf_is.0.1 in
    ap (λ (w : Rest). prefix_len is_space_or_tab w.text) words ∙ plain_front 4 is.opened.position few
  where
    fewer : piece.words.indent ≡ space_within 4 is.opened.position → ¬ (piece.words.indent ≡ 4) → space_within 4 is.opened.position < 4
    fewer same other = omega (arith, same, other)

pieces_plain : (pieces : List Piece) (before : Between) (line start : ℕ) (events rest : List Event) → AreBlocks before pieces []
    → AreEvents before.containers line start pieces events → AreAnyhow rest → AreAnyhow (events ++ rest)
pieces_plain [] before line start events rest each are plain waiting =
    subst (λ (es : List Event). FirstsBeginPlain waiting (es ++ rest)) (sym are) (plain waiting)
pieces_plain (piece ∷ later) before line start events rest each (leaves, more, are, is, after) plain waiting =
    let s = (match_line before.containers piece.first).state in
    let gone = replicate (length before.containers - length piece.kept) ends in
    let next = pieces_plain later (opened_by before piece) _ (start + length (concat (piece.first ∷ piece.later))) more rest each.1 after plain in
    subst (λ (es : List Event). FirstsBeginPlain waiting (es ++ rest)) (sym is)
    (subst (FirstsBeginPlain waiting) (sym (regroup gone (started start s piece.begun) (map leaf leaves) more rest))
    (ends_plain (length before.containers - length piece.kept) _
    (started_plain start s piece.begun _
    (leaves_plain (piece.kept ++ piece.begun) piece.kind leaves (part_of line start piece) (piece_content piece) (more ++ rest) are
    (paragraph_plain before piece _ each.0) next)) waiting))

-- The text of a paragraph that is the first block of a container of a page begins with neither a space nor a tab.
pub page_firsts_begin_plain : (asked : Extensions) (page : List ℕ) (events : List Event) → IsEventsOf asked page events
    → FirstsBeginPlain None events
page_firsts_begin_plain asked page events (pieces, blocks, is_page, are, is) =
    subst (FirstsBeginPlain None) (sym is)
    (pieces_plain pieces (root asked) 0 (text_start page) blocks (replicate (open_after 0 pieces) ends) is_page.each are (all_ended (open_after 0 pieces))
    None)
