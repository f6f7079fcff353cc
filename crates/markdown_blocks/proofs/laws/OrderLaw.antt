-- The blocks of a page stand in order.
use Rattle.std.proofs.Common.{ℕ, zero, suc, ◌+◌, ◌-◌, ◌≤◌, ◌≡◌, ◌≢◌, ◌∙◌, List, [], ◌∷◌, ◌++◌, length, take, drop, inl, inr, refl, ap, arith}
use Rattle.std.proofs.Common.{Bool, true, false, subst, sym, append_assoc, append-nil, Option, Some, None}
use Rattle.std.specs.Prelude.{map, replicate}
use Rattle.std.specs.List.{concat}
use Rattle.std.specs.declared.ops.Range.{Range}
use Rattle.std.proofs.lemmas.List.{length-append, length-drop, take-append-drop}
use Rattle.std.proofs.lemmas.List.Folds.{concat-append}
use Rattle.markdown_scanners_tree.specs.declared.scanners.reference_definitions.ReferenceDefinition.{ReferenceDefinition}
use Rattle.markdown_scanners_tree.specs.line.State.{LineState, after_space}
use Rattle.markdown_scanners_tree.specs.scanners.TextLines.{lines_of}
use Rattle.markdown_scanners_tree.proofs.ForCallers.{lines_joined, space_forward}
use Rattle.markdown_blocks.specs.byte_order_mark.ByteOrderMark.{text_start}
use Rattle.markdown_blocks.proofs.byte_order_mark.MarkLemmas.{text_within}
use Rattle.markdown_blocks.specs.blocks.Pages.{OpensAfter, Piece, AreBlocks, lines_in, opened_by, root}
use Rattle.markdown_scanners_tree.specs.scanners.reference_definitions.ReferenceDefinition.{IsEnd}
use Rattle.markdown_blocks.specs.containers.Containers.{Between, Opens, Rest, after_marker, asked_between, match_line, marker_start}
use Rattle.markdown_blocks.specs.containers.Containers.{rest_at, without_terms}
use Rattle.markdown_blocks.specs.declared.blocks.BlockKind.{BlockKind}
use Rattle.markdown_blocks.specs.declared.blocks.BlockKind.TheVariants.{Definition}
use Rattle.markdown_values.specs.declared.values.extensions.Extensions.{Extensions}
use Rattle.markdown_blocks.specs.declared.containers.Container.{Container}
use Rattle.markdown_blocks.specs.definitions.Definitions.{IsDefinition}
use Rattle.markdown_blocks.specs.events.Events.{AreEvents, AreLeaves, Event, IsEventsOf, LeafBlock, Part, block_end, ends}
use Rattle.markdown_blocks.specs.events.Events.{first_of, later_lines, leaf, leaf_of, lines_taken, open_after, part_of}
use Rattle.markdown_blocks.specs.events.Events.{piece_content, started}
use Rattle.markdown_blocks.specs.laws.Order.{BeginsIn, Follow, NodesStand, StandInOrder, line_end, passed_after}
use Rattle.markdown_blocks.specs.lists.Lists.{Nodes, nothing, leaf_then, container_then, flatten}
use Rattle.markdown_blocks.proofs.containers.ContainerLemmas.{begun_by_all}
use Rattle.markdown_blocks.proofs.content.ReachedLemmas.{Reached, after_some}
use Rattle.markdown_blocks.proofs.content.ReachedPlaces.{begun_reached, after_reached}
use Rattle.markdown_blocks.proofs.definitions.DefinitionLemmas.{no_text}
use Rattle.markdown_blocks.proofs.laws.FurtherPlaces.{begun_further}
use Rattle.markdown_blocks.proofs.lists.PageLemmas.{regroup}
use Rattle.markdown_blocks.proofs.taken.LineCuts.{page_after}
use Rattle.markdown_blocks.proofs.whole.WholeLemmas.{some_lines}

-- ---- lines

pub first_append : (lines others : List (List ℕ)) → lines ≢ [] → first_of (lines ++ others) ≡ first_of lines
first_append [] others some = absurd (some refl)
first_append (line ∷ lines) others some = refl

pub first_kept : (n : ℕ) (lines : List (List ℕ)) → 1 ≤ n → first_of (take n lines) ≡ first_of lines
first_kept zero lines some = absurd (omega (arith, some))
first_kept (suc n) [] some = refl
first_kept (suc n) (line ∷ lines) some = refl

pub cons_first : (lines : List (List ℕ)) → lines ≢ [] → lines ≡ first_of lines ∷ drop 1 lines
cons_first [] some = absurd (some refl)
cons_first (line ∷ lines) some = refl

pub some_kept : (n : ℕ) (lines : List (List ℕ)) → 1 ≤ n → lines ≢ [] → take n lines ≢ []
some_kept zero lines some has_one = absurd (omega (arith, some))
some_kept (suc n) [] some has_one = absurd (has_one refl)
some_kept (suc n) (line ∷ lines) some has_one = λ none. cc

pub first_shorter : (lines : List (List ℕ)) → length (first_of lines) ≤ length (concat lines)
first_shorter [] = omega arith
first_shorter (line ∷ lines) = omega (arith, length-append line (concat lines))

pub parted : (n : ℕ) (lines : List (List ℕ)) → length (concat lines) ≡ length (concat (take n lines)) + length (concat (drop n lines))
parted n lines =
    ap (λ (ls : List (List ℕ)). length (concat ls)) (sym (take-append-drop n lines)) ∙ ap length (concat-append (take n lines) (drop n lines))
    ∙ length-append (concat (take n lines)) (concat (drop n lines))

-- a definition has a line
some_len : (text : List ℕ) (offset len : ℕ) (title : Option (Range ℕ)) → 1 ≤ offset → IsEnd text offset title len → 1 ≤ len
some_len text offset len None some is = omega (arith, some, is.len_is)
some_len text offset len (Some title) some is = omega (arith, is.len_is)

some_line : (b : ℕ) (text : List ℕ) (n : ℕ) → 1 ≤ n → 1 ≤ length (lines_of (take n (b ∷ text)))
some_line b text zero some = absurd (omega (arith, some))
some_line b text (suc n) some = by (lines_of (b ∷ take n text)) (λ none. some_lines (b ∷ take n text) none)
  where
    by : (lines : List (List ℕ)) → (lines ≡ [] → b ∷ take n text ≡ []) → 1 ≤ length lines
    by [] none = let same : b ∷ take n text ≡ [] = none refl in cc
    by (line ∷ lines) none = omega arith

pub some_taken : (content : List ℕ) (definition : ReferenceDefinition) → IsDefinition content definition → 1 ≤ lines_taken content definition
some_taken [] definition is = absurd (no_text definition is)
some_taken (b ∷ content) definition is =
    some_line b content definition.len
    (some_len (b ∷ content) is.offset definition.len definition.title (omega (arith, is.target.some, is.target.offset_is)) is.ends)

-- ---- the leaf blocks of a block

module _ (page : List ℕ) where
  -- a leaf block begins with its first line
  begins_in : (kind : BlockKind) (part : Part) (passed : ℕ) → first_of (lines_of (drop part.start page)) ≡ first_of part.lines
      → passed ≤ part.start + (length (first_of part.lines) - length part.words.text) → BeginsIn page part.start passed (leaf_of kind part)
  begins_in kind part passed first passed_low =
      let same = ap length first in
      record {
        start = refl;
        after = passed_low;
        in_line = omega (arith, same);
        whole = omega (arith, same, first_shorter part.lines);
      }

  leaves_follow : (outer : List Container) (kind : BlockKind) (leaves : List LeafBlock) (part : Part) (content : List ℕ) (others : List (List ℕ))
      (passed : ℕ) (rest : List Event) → AreLeaves outer kind part content leaves → lines_of (drop part.start page) ≡ part.lines ++ others
      → passed ≤ part.start + (length (first_of part.lines) - length part.words.text) → (part.lines ≡ [] → passed ≡ part.start)
      → Follow page (part.start + length (concat part.lines)) (part.start + length (concat part.lines)) rest
      → Follow page part.start passed (map leaf leaves ++ rest)
  leaves_follow outer kind [] part content others passed rest none stands passed_low at follow =
      let end : part.start + length (concat part.lines) ≡ part.start = omega (arith, ap (λ (ls : List (List ℕ)). length (concat ls)) none) in
      subst (λ n. Follow page part.start n rest) (sym (at none)) (subst (λ n. Follow page n n rest) end follow)
  leaves_follow outer kind (block ∷ more) part content others passed rest (some, inl (definition, is, first, later)) stands passed_low at follow =
      let n = lines_taken content definition in
      let front = record part { lines = take n part.lines } in
      let taken = first_kept n part.lines (some_taken content definition is) in
      let start = part.start + length (concat (take n part.lines)) in
      let begins : BeginsIn page part.start passed (leaf_of Definition front) =
      begins_in Definition front passed (ap first_of stands ∙ first_append part.lines others some ∙ sym taken)
      (omega (arith, passed_low, ap length taken)) in
      let left : lines_of (drop start page) ≡ drop n part.lines ++ others =
      page_after page part.start (take n part.lines) (drop n part.lines ++ others)
      (stands ∙ ap (λ ls. ls ++ others) (sym (take-append-drop n part.lines)) ∙ append_assoc (take n part.lines) (drop n part.lines) others) in
      let end : part.start + length (concat part.lines) ≡ start + length (concat (drop n part.lines)) = omega (arith, parted n part.lines) in
      subst (λ b. Follow page part.start passed (leaf b ∷ map leaf more ++ rest)) (sym first) (
        begins,
        leaves_follow outer kind more (later_lines outer n part) (drop definition.len content) others start rest later left (omega arith)
            (λ none. refl) (subst (λ e. Follow page e e rest) end follow),
      )
  leaves_follow outer kind (block ∷ more) part content others passed rest (some, inr (none, only, last)) stands passed_low at follow =
      subst (λ b. Follow page part.start passed (leaf b ∷ map leaf more ++ rest)) (sym only) (
        begins_in kind part passed (ap first_of stands ∙ first_append part.lines others some) passed_low,
        subst (λ (m : List LeafBlock). Follow page (part.start + length (concat part.lines)) (part.start + length (concat part.lines)) (map leaf m ++ rest))
            (sym last) follow,
      )

  -- ---- the containers that it begins, and those that end before it

  module _ (line : ℕ) where
    ends_follow : (count passed : ℕ) (rest : List Event) → Follow page line passed rest → Follow page line passed (replicate count ends ++ rest)
    ends_follow zero passed rest follow = follow
    ends_follow (suc count) passed rest follow = ends_follow count passed rest follow

    module _ (first : List ℕ) (end : line_end page line ≡ line + length first) (last : LineState) (rest : List Event) where
      started_follow : (asked : Extensions) (containers : List Container) (s : LineState) (passed : ℕ) → Reached first s → passed ≤ line + s.offset
          → Opens asked s containers last
          → ((from : ℕ) → from ≤ line + last.offset → Reached first last → Follow page line from rest)
          → Follow page line passed (started line s containers ++ rest)
      started_follow asked [] s passed r low opens follow =
          follow passed (subst (λ (z : LineState). passed ≤ line + z.offset) (sym opens.1) low) (subst (Reached first) (sym opens.1) r)
      started_follow asked (c ∷ inner) s passed r low (next, begun, opens) follow =
          let all = begun_by_all asked s (c, next) begun in
          let after : next ≡ after_marker s = rw (after_marker, all) refl in
          let further = begun_further s next c all in
          let there = begun_reached first s next c r all in
          let inside = there.within in (
            omega (arith, low, space_forward 4 s),
            omega (arith, end, further.0, inside),
            subst (λ z. Follow page line (suc (line + marker_start s)) (started line z inner ++ rest)) after
                (started_follow (without_terms asked) inner next (suc (line + marker_start s)) there (omega (arith, further.0)) opens follow),
          )

      started_after_follow : (header : Bool) (asked : Extensions) (containers : List Container) (s : LineState) (passed : ℕ) → Reached first s
          → passed ≤ line + s.offset → OpensAfter header asked s containers last
          → ((from : ℕ) → from ≤ line + last.offset → Reached first last → Follow page line from rest)
          → Follow page line passed (started line s containers ++ rest)
      started_after_follow false asked containers s passed r low opens follow = started_follow asked containers s passed r low opens follow
      started_after_follow true asked containers s passed r low opens follow =
          subst (λ cs. Follow page line passed (started line s cs ++ rest)) (sym opens.0)
          (follow passed (subst (λ (z : LineState). passed ≤ line + z.offset) (sym opens.1) low) (subst (Reached first) (sym opens.1) r))

  -- where the text of a block begins
  text_after : (first : List ℕ) (s : LineState) (line from : ℕ) → Reached first s → from ≤ line + s.offset
      → from ≤ line + (length first - length (rest_at s).text)
  text_after first s line from r low =
      let there = after_some first s r 4 in
      let inside = there.within in
      let size : length (rest_at s).text ≡ length first - (after_space 4 s).offset =
      length-drop (after_space 4 s).offset (after_space 4 s).bytes ∙ ap (λ (l : List ℕ). length l - (after_space 4 s).offset) there.of_line in
      omega (arith, size, inside, low, space_forward 4 s)

  -- ---- the page

  pieces_follow : (pieces : List Piece) (before : Between) (line start : ℕ) (events rest : List Event) → AreBlocks before pieces []
      → AreEvents before.containers line start pieces events → lines_of (drop start page) ≡ lines_in pieces → start ≤ length page
      → Follow page (length page) (length page) rest → Follow page start start (events ++ rest)
  pieces_follow [] before line start events rest each are stands within follow =
      let left : length page - start ≡ 0 = sym (length-drop start page) ∙ ap length (some_lines (drop start page) stands) in
      let end : length page ≡ start = omega (arith, left, within) in
      subst (λ (es : List Event). Follow page start start (es ++ rest)) (sym are) (subst (λ n. Follow page n n rest) end follow)
  pieces_follow (piece ∷ later) before line start events rest each (leaves, more, are, is, after) stands within follow =
      let lines = piece.first ∷ piece.later in
      let opened = each.0.opened in
      let s = (match_line before.containers piece.first).state in
      let after_lines = page_after page start lines (lines_in later) stands in
      let sizes : length page - start ≡ length (concat lines) + length (concat (lines_in later)) =
      sym (length-drop start page) ∙ ap length (sym (lines_joined (drop start page)) ∙ ap concat stands ∙ concat-append lines (lines_in later))
      ∙ length-append (concat lines) (concat (lines_in later)) in
      let end : line_end page start ≡ start + length piece.first = ap (λ (ls : List (List ℕ)). start + length (first_of ls)) stands in
      let next = pieces_follow later (opened_by before piece) _ (start + length (concat lines)) more rest each.1 after after_lines
      (omega (arith, sizes, within)) follow in
      let gone = replicate (length before.containers - length piece.kept) ends in
      subst (λ (es : List Event). Follow page start start (es ++ rest)) (sym is)
      (subst (Follow page start start) (sym (regroup gone (started start s piece.begun) (map leaf leaves) more rest))
      (ends_follow start (length before.containers - length piece.kept) start _
      (started_after_follow start piece.first end opened.position _ piece.header (asked_between before piece.first) piece.begun s start
      (after_reached piece.first before.containers) (omega arith) opened.begins
      (λ from low reached. leaves_follow (piece.kept ++ piece.begun) piece.kind leaves (part_of line start piece) (piece_content piece)
      (lines_in later) from (more ++ rest) are stands
      (subst (λ (w : Rest). from ≤ start + (length piece.first - length w.text)) (sym opened.is_rest)
      (text_after piece.first opened.position start from reached low)) (λ none. cc) next))))

  all_passed : (count : ℕ) → Follow page (length page) (length page) (replicate count ends)
  all_passed zero = (refl, refl)
  all_passed (suc count) = all_passed count

-- The events of a page stand in it in order.
pub page_in_order : (asked : Extensions) (page : List ℕ) (events : List Event) → IsEventsOf asked page events → StandInOrder page events
page_in_order asked page events (pieces, blocks, is_page, are, is) =
    subst (StandInOrder page) (sym is)
    (pieces_follow page pieces (root asked) 0 (text_start page) blocks (replicate (open_after 0 pieces) ends) is_page.each are (sym is_page.joined)
    (text_within page)
    (all_passed page (open_after 0 pieces)))

-- ---- what stands in a container

nodes_follow : (page : List ℕ) (nodes : Nodes) (line passed : ℕ) (rest : List Event) → Follow page line passed (flatten nodes ++ rest)
    → NodesStand passed nodes × ((then : ℕ) × Follow page then (passed_after passed nodes) rest)
nodes_follow page nothing line passed rest follow = (tt, (line, follow))
nodes_follow page (leaf_then block later) line passed rest (begins, follow) =
    let more = nodes_follow page later (block_end block) (block_end block) rest follow in
    ((begins.after, omega (arith, begins.in_line, begins.whole), more.0), more.1)
nodes_follow page (container_then container offset inner later) line passed rest (before, within, follow) =
    let held = nodes_follow page inner line (suc offset) (ends ∷ (flatten later ++ rest))
    (subst (Follow page line (suc offset)) (append_assoc (flatten inner) (ends ∷ flatten later) rest) follow) in
    let more = nodes_follow page later held.1.0 (passed_after (suc offset) inner) rest held.1.1 in
    ((before, held.0, more.0), more.1)

-- What stands in a page stands there in order, from the start of its text to its end.
pub page_nodes_stand : (asked : Extensions) (page : List ℕ) (nodes : Nodes) → IsEventsOf asked page (flatten nodes)
    → NodesStand (text_start page) nodes × (passed_after (text_start page) nodes ≡ length page)
page_nodes_stand asked page nodes is =
    let all = page_in_order asked page (flatten nodes) is in
    let found = nodes_follow page nodes (text_start page) (text_start page) [] (subst (StandInOrder page) (sym (append-nil (flatten nodes))) all) in
    (found.0, found.1.1.1)
