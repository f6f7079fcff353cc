-- Where a footnote definition begins on a page, its label stands, and a colon where the definition of a term does.
use Rattle.std.proofs.Common.{ℕ, suc, zero, Bool, true, false, ◌&&◌, ◌==◌, ◌+◌, ◌-◌, ◌≡◌, List, [], ◌∷◌, ◌++◌, length, take, drop, Option, Some, None}
use Rattle.std.proofs.Common.{is_some, refl, sym, ap, ◌∙◌, subst, arith, append_assoc, inl, inr}
use Rattle.std.specs.Prelude.{if◌then◌else◌, map, nat_lt, replicate}
use Rattle.std.specs.List.{concat, prefix_len}
use Rattle.std.proofs.lemmas.Bool.{cases_lt}
use Rattle.std.proofs.lemmas.List.{drop-append-le, drop-drop, drop_all}
use Rattle.std.proofs.lemmas.List.Folds.{concat-append}
use Rattle.std.proofs.Math.Seq.{drop-append_seam}
use Rattle.markdown_scanners_tree.specs.Ascii.{colon, greater_than_sign, left_bracket}
use Rattle.markdown_scanners_tree.specs.Bytes.{begins_with}
use Rattle.markdown_scanners_tree.specs.line.ItemRules.{start_of}
use Rattle.markdown_scanners_tree.specs.line.Outcome.{after_quote, definition_outcome}
use Rattle.markdown_scanners_tree.specs.line.Outcome.{not_found, space_or_end_follows}
use Rattle.markdown_scanners_tree.specs.line.PlainStep.{definition_spaces}
use Rattle.markdown_scanners_tree.specs.line.State.{LineState, unscanned, rest_of, leading_spaces, bytes_further, space_within, after_space}
use Rattle.markdown_scanners_tree.specs.scanners.list_items.ListMarker.{Marker, list_marker}
use Rattle.markdown_scanners_tree.proofs.ForCallers.{lines_joined}
use Rattle.markdown_blocks.specs.byte_order_mark.ByteOrderMark.{text_of, text_start}
use Rattle.markdown_blocks.specs.blank_lines.BlankLines.{is_blank}
use Rattle.markdown_blocks.specs.blocks.Pages.{OpensAfter, Piece, AreBlocks, lines_in, opened_by, root}
use Rattle.markdown_blocks.specs.containers.Containers.{Between, after_marker, all_containers, asked_between, begun_at}
use Rattle.markdown_blocks.specs.containers.Containers.{match_line, past_quote, either_begun, extension_of, footnote_by, footnote_of, term_definition_by}
use Rattle.markdown_blocks.specs.containers.Containers.{term_definition_of}
use Rattle.markdown_blocks.specs.containers.Containers.{go_on, item_of, marker_start, within, within_quote, within_width, without_terms, Opens}
use Rattle.markdown_blocks.specs.containers.Footnotes.{past_footnote, circumflex, closes_label, footnote_label, is_label_byte}
use Rattle.markdown_blocks.specs.containers.ItemMarkers.{item_outcome, item_outcome_after, item_outcome_by}
use Rattle.markdown_values.specs.declared.values.extensions.Extensions.{Extensions}
use Rattle.markdown_blocks.specs.declared.containers.Container.{Container}
use Rattle.markdown_blocks.specs.declared.containers.Container.TheVariants.{Quote, Item, Footnote, TermDefinition}
use Rattle.markdown_blocks.specs.events.Events.{Event, starts, leaf, ends, LeafBlock, started, piece_events, AreEvents, open_after, IsEventsOf}
use Rattle.markdown_blocks.specs.events.Labels.{AreMarked, IsMarked}
use Rattle.markdown_blocks.proofs.containers.ContainerLemmas.{begun_by_all, definition_marked, step_on}

-- a label in a text stands in each that goes on after it
closes_more : (bytes more : List ℕ) → closes_label bytes ≡ true → closes_label (bytes ++ more) ≡ true
closes_more [] more h = cc
closes_more (a ∷ []) more h = cc
closes_more (a ∷ b ∷ bytes) more h = h

abbrev run : List ℕ → ℕ
run bytes = prefix_len is_label_byte bytes

run_more : (bytes more : List ℕ) → closes_label (drop (run bytes) bytes) ≡ true
    → (run (bytes ++ more) ≡ run bytes) × (closes_label (drop (run bytes) (bytes ++ more)) ≡ true)
run_more [] more h = cc
run_more (b ∷ bytes) more h = by (is_label_byte b) refl (run_more bytes more)
  where
    by : (t : Bool) → is_label_byte b ≡ t
        → (closes_label (drop (run bytes) bytes) ≡ true → (run (bytes ++ more) ≡ run bytes) × (closes_label (drop (run bytes) (bytes ++ more)) ≡ true))
        → (run (b ∷ (bytes ++ more)) ≡ run (b ∷ bytes)) × (closes_label (drop (run (b ∷ bytes)) (b ∷ (bytes ++ more))) ≡ true)
    by true is later =
        let one : run (b ∷ bytes) ≡ suc (run bytes) = rw is (omega arith) in
        let two : run (b ∷ (bytes ++ more)) ≡ suc (run (bytes ++ more)) = rw is (omega arith) in
        let l = later (subst (λ n. closes_label (drop n (b ∷ bytes)) ≡ true) one h) in
        (two ∙ ap suc l.0 ∙ sym one, subst (λ n. closes_label (drop n (b ∷ (bytes ++ more))) ≡ true) (sym one) l.1)
    by false is later =
        let one : run (b ∷ bytes) ≡ 0 = rw is refl in
        let two : run (b ∷ (bytes ++ more)) ≡ 0 = rw is refl in
        let here = subst (λ n. closes_label (drop n (b ∷ bytes)) ≡ true) one h in
        (two ∙ sym one, subst (λ n. closes_label (drop n (b ∷ (bytes ++ more))) ≡ true) (sym one) (closes_more (b ∷ bytes) more here))

some_of : (t : Bool) (label : List ℕ) → is_some (if t then Some label else None) ≡ t
some_of true label = refl
some_of false label = refl

last_holds : (p q r t : Bool) → (p && q && r && t) ≡ true → t ≡ true
last_holds true true true t h = h
last_holds true true false t h = cc
last_holds true false r t h = cc
last_holds false q r t h = cc

label_more : (bytes more : List ℕ) → is_some (footnote_label bytes) ≡ true → is_some (footnote_label (bytes ++ more)) ≡ true
label_more [] more h = cc
label_more (a ∷ []) more h = cc
label_more (a ∷ b ∷ bytes) more h =
    let n = run bytes in
    let test : ℕ → Bool → Bool = λ k t. a == left_bracket && b == circumflex && nat_lt 0 k && t in
    let here : test n (closes_label (drop n bytes)) ≡ true = sym (some_of (test n (closes_label (drop n bytes))) (take n bytes)) ∙ h in
    let closes = last_holds (a == left_bracket) (b == circumflex) (nat_lt 0 n) (closes_label (drop n bytes)) here in
    let l = run_more bytes more closes in
    some_of (test (run (bytes ++ more)) (closes_label (drop (run (bytes ++ more)) (bytes ++ more)))) (take (run (bytes ++ more)) (bytes ++ more))
    ∙ ap (λ k. test k (closes_label (drop k (bytes ++ more)))) l.0 ∙ ap (test n) (l.1 ∙ sym closes) ∙ here

colon_more : (bytes more : List ℕ) → begins_with (λ b. b == colon) bytes ≡ true → begins_with (λ b. b == colon) (bytes ++ more) ≡ true
colon_more [] more h = cc
colon_more (b ∷ bytes) more h = h

-- an offset stays in its line
either_bytes : (b : Bool) (s t u : LineState) → s.bytes ≡ u.bytes → t.bytes ≡ u.bytes → (if b then s else t).bytes ≡ u.bytes
either_bytes true s t u first second = first
either_bytes false s t u first second = second

quote_bytes : (s : LineState) → (after_quote s).bytes ≡ s.bytes
quote_bytes s = either_bytes (begins_with (λ b. b == greater_than_sign) (unscanned s)) (after_space 1 (bytes_further 1 s)) s s refl refl

item_bytes : (indent : ℕ) (s : LineState) (found : Option Marker) → (item_outcome_by indent s found).state.bytes ≡ s.bytes
item_bytes indent s None = refl
item_bytes indent s (Some m) = by (space_or_end_follows (bytes_further m.width s))
  where
    by : (b : Bool) → (if b then item_outcome_after indent m (after_space 1 (bytes_further m.width s)) else not_found s).state.bytes ≡ s.bytes
    by true = refl
    by false = refl

-- what begins there is marked, and the offset after it stands in the line
module _ (P : Container × LineState → Type 0) where
  pub one_is : (found r : Container × LineState) → Some found ≡ Some r → P found → P r
  one_is found r is h = let one : found ≡ r = cc in subst P one h

  pub either_is : (first second : Option (Container × LineState)) → ((r : Container × LineState) → first ≡ Some r → P r)
      → ((r : Container × LineState) → second ≡ Some r → P r) → (r : Container × LineState) → either_begun first second ≡ Some r → P r
  either_is None second h h' r is = h' r is
  either_is (Some found) second h h' r is = h r is

  asked_is : (on : Bool) (found : Option (Container × LineState)) → ((r : Container × LineState) → found ≡ Some r → P r)
      → (r : Container × LineState) → (if on then found else None) ≡ Some r → P r
  asked_is true found h r is = h r is
  asked_is false found h r is = cc

  pub begun_is : (far here : Bool) (quote other : Option (Container × LineState)) → ((r : Container × LineState) → quote ≡ Some r → P r)
      → ((r : Container × LineState) → other ≡ Some r → P r) → (r : Container × LineState)
      → (if far then None else if here then quote else other) ≡ Some r → P r
  begun_is true here quote other h h' r is = cc
  begun_is false true quote other h h' r is = h r is
  begun_is false false quote other h h' r is = h' r is

module _ (t : LineState) where
  abbrev Stands : Container × LineState → Type 0
  Stands r = (r.1.bytes ≡ t.bytes) × IsMarked r.0 (unscanned t)

  item_stands : (answer : Option (ℕ × ℕ × ℕ)) (after : LineState) → after.bytes ≡ t.bytes → (r : Container × LineState)
      → item_of (record { answer = answer; state = after }) ≡ Some r → Stands r
  item_stands None after same r is = cc
  item_stands (Some a) after same r is = one_is Stands _ r is (same, tt)

  footnote_stands : (label : Option (List ℕ)) → footnote_label (unscanned t) ≡ label → (r : Container × LineState) → footnote_by t label ≡ Some r
      → Stands r
  footnote_stands None found r is = cc
  footnote_stands (Some l) found r is = one_is Stands (Footnote, past_footnote l t) r is (refl, ap is_some found)

  definition_stands : (n : ℕ) (r : Container × LineState) → term_definition_by (definition_outcome n t) ≡ Some r → Stands r
  definition_stands n r is =
      let marked = definition_marked n t r is in
      let after = bytes_further 1 t in
      let columns = definition_spaces (leading_spaces (rest_of after)) in
      let next = after_space columns after in
      one_is Stands (TermDefinition (record { starts_blank = is_blank (unscanned next); width = n + 1 + columns }), next) r (rw marked at is) (refl, marked)

begun_there : (asked : Extensions) (s : LineState) (r : Container × LineState) → begun_at asked s ≡ Some r → Stands (after_space 4 s) r
begun_there asked s =
    let t = after_space 4 s in
    let n = space_within 4 s in
    begun_is (Stands t) (n == 4) (begins_with (λ b. b == greater_than_sign) (unscanned t)) (Some (Quote, after_quote t)) _
    (λ r is. one_is (Stands t) (Quote, after_quote t) r is (quote_bytes t, tt))
    (either_is (Stands t) (item_of (item_outcome n t)) (extension_of asked n t)
    (item_stands t (item_outcome n t).answer (item_outcome n t).state (item_bytes n t (list_marker (unscanned t))))
    (either_is (Stands t) (footnote_of asked t) (term_definition_of asked n t)
    (asked_is (Stands t) asked.footnotes (footnote_by t (footnote_label (unscanned t))) (footnote_stands t (footnote_label (unscanned t)) refl))
    (asked_is (Stands t) asked.definition_lists (term_definition_by (definition_outcome n t)) (definition_stands t n))))

-- the containers that a line goes on with
quote_on : (found : Option LineState) (s : LineState) (r : Bool × LineState) → ((t : LineState) → found ≡ Some t → t.bytes ≡ s.bytes)
    → within_quote found ≡ Some r → r.1.bytes ≡ s.bytes
quote_on None s r same is = cc
quote_on (Some t) s r same is =
    let pair : ◌≡◌ {A = Bool × LineState} (is_blank (unscanned t), t) r = cc in subst (λ (z : Bool × LineState). z.1.bytes ≡ s.bytes) pair (same t refl)

quote_offset : (far here : Bool) (q t : LineState) (s : LineState) → q.bytes ≡ s.bytes → (if far then None else if here then Some q else None) ≡ Some t
    → t.bytes ≡ s.bytes
quote_offset true here q t s same is = cc
quote_offset false true q t s same is = let one : q ≡ t = cc in subst (λ (z : LineState). z.bytes ≡ s.bytes) one same
quote_offset false false q t s same is = cc

either_on : (b : Bool) (p r : Bool × LineState) (s : LineState) → p.1.bytes ≡ s.bytes → (if b then Some p else None) ≡ Some r → r.1.bytes ≡ s.bytes
either_on true p r s same is = let one : p ≡ r = cc in subst (λ (z : Bool × LineState). z.1.bytes ≡ s.bytes) one same
either_on false p r s same is = cc

either_off : (b : Bool) (p r : Bool × LineState) (s : LineState) → p.1.bytes ≡ s.bytes → (if b then None else Some p) ≡ Some r → r.1.bytes ≡ s.bytes
either_off true p r s same is = cc
either_off false p r s same is = let one : p ≡ r = cc in subst (λ (z : Bool × LineState). z.1.bytes ≡ s.bytes) one same

width_bytes : (begun : Bool) (width : ℕ) (blank : Bool) (s : LineState) (r : Bool × LineState) → within_width begun width blank s ≡ Some r
    → r.1.bytes ≡ s.bytes
width_bytes begun width true s r is = either_off begun (true, s) r s refl is
width_bytes begun width false s r is = either_on (space_within width s == width) (false, after_space width s) r s refl is

within_bytes : (c : Container) (blank : Bool) (s : LineState) (r : Bool × LineState) → within c blank s ≡ Some r → r.1.bytes ≡ s.bytes
within_bytes Quote blank s r is =
    let t = after_space 4 s in
    quote_on (past_quote (space_within 4 s) t) s r (λ q found. quote_offset (space_within 4 s == 4)
    (begins_with (λ b. b == greater_than_sign) (unscanned t)) (after_quote t) q s (quote_bytes t) found) is
within_bytes (Item item) blank s r is = width_bytes item.starts_blank item.width blank s r is
within_bytes Footnote blank s r is = width_bytes false 4 blank s r is
within_bytes (TermDefinition definition) blank s r is = width_bytes definition.starts_blank definition.width blank s r is

on_bytes : (blank : Bool) (cs : List Container) (s : LineState) → (go_on blank cs s).state.bytes ≡ s.bytes
on_bytes blank [] s = refl
on_bytes blank (c ∷ cs) s = by (within c blank s) (within_bytes c blank s) (λ b t. on_bytes b cs t)
  where
    by : (found : Option (Bool × LineState)) → ((r : Bool × LineState) → found ≡ Some r → r.1.bytes ≡ s.bytes)
        → ((b : Bool) (t : LineState) → (go_on b cs t).state.bytes ≡ t.bytes)
        → (step_on cs s found).state.bytes ≡ s.bytes
    by None same later = refl
    by (Some r) same later = later r.0 r.1 ∙ same r refl

-- events one after the other
both_have : (page : List ℕ) (events others : List Event) → AreMarked page events → AreMarked page others → AreMarked page (events ++ others)
both_have page [] others h h' = h'
both_have page (starts c offset ∷ events) others h h' = (h.0, both_have page events others h.1 h')
both_have page (leaf block ∷ events) others h h' = both_have page events others h h'
both_have page (ends ∷ events) others h h' = both_have page events others h h'

ends_have : (page : List ℕ) (count : ℕ) → AreMarked page (replicate count ends)
ends_have page zero = tt
ends_have page (suc count) = ends_have page count

leaves_have : (page : List ℕ) (leaves : List LeafBlock) → AreMarked page (map leaf leaves)
leaves_have page [] = tt
leaves_have page (block ∷ leaves) = leaves_have page leaves

-- the markers in a line that stands in the page
module _ (page first more : List ℕ) (start : ℕ) (stands : drop start page ≡ first ++ more) where
  test_stands : (test : List ℕ → Bool) → test [] ≡ false → ((bytes : List ℕ) → test bytes ≡ true → test (bytes ++ more) ≡ true) → (offset : ℕ)
      → test (drop offset first) ≡ true → test (drop (start + offset) page) ≡ true
  test_stands test empty on offset holds = elim (cases_lt (length first) offset) [
    | inl past ↦ (
        let none : drop offset first ≡ [] = drop_all offset first (omega (arith, past)) in
        let both : true ≡ false = sym holds ∙ ap test none ∙ empty in cc
        )
    | inr within ↦ (
        let there : drop (start + offset) page ≡ drop offset first ++ more =
        sym (drop-drop offset start page) ∙ ap (drop offset) stands ∙ drop-append-le offset first more (omega (arith, within)) in
        ap test there ∙ on (drop offset first) holds
        )
  ]

  marked : (c : Container) (offset : ℕ) → IsMarked c (drop offset first) → IsMarked c (drop (start + offset) page)
  marked Quote offset h = tt
  marked (Item item) offset h = tt
  marked Footnote offset h = test_stands (λ bytes. is_some (footnote_label bytes)) refl (λ bytes. label_more bytes more) offset h
  marked (TermDefinition definition) offset h = test_stands (begins_with (λ b. b == colon)) refl (λ bytes. colon_more bytes more) offset h

  started_have : (asked : Extensions) (cs : List Container) (s last : LineState) → s.bytes ≡ first → Opens asked s cs last
      → AreMarked page (started start s cs)
  started_have asked [] s last at o = tt
  started_have asked (c ∷ cs) s last at o =
      let there = begun_there asked s (c, o.0) o.1 in
      let all : begun_at all_containers s ≡ Some (c, o.0) = begun_by_all asked s (c, o.0) o.1 in
      let next : o.0 ≡ after_marker s = rw (after_marker, all) refl in (
        marked c (marker_start s) (subst (λ bytes. IsMarked c (drop (marker_start s) bytes)) at there.1),
        subst (λ z. AreMarked page (started start z cs)) next (started_have (without_terms asked) cs o.0 last (there.0 ∙ at) o.2),
      )

  -- also where the line goes on with the paragraph before it, and so begins no container
  started_after_have : (header : Bool) (asked : Extensions) (cs : List Container) (s last : LineState) → s.bytes ≡ first
      → OpensAfter header asked s cs last → AreMarked page (started start s cs)
  started_after_have true asked cs s last at o = subst (λ ds. AreMarked page (started start s ds)) (sym o.0) tt
  started_after_have false asked cs s last at o = started_have asked cs s last at o

-- the pieces of a page
pieces_have : (page : List ℕ) (pieces : List Piece) (before : Between) (line start : ℕ) (events : List Event) → AreBlocks before pieces []
    → AreEvents before.containers line start pieces events → drop start page ≡ concat (lines_in pieces) → AreMarked page events
pieces_have page [] before line start events each are stands = subst (AreMarked page) (sym are) tt
pieces_have page (piece ∷ later) before line start events each are stands =
    let front = piece.first ∷ piece.later in
    let parts : concat (lines_in (piece ∷ later)) ≡ concat front ++ concat (lines_in later) = concat-append front (lines_in later) in
    let opened = each.0.opened in
    let first : drop start page ≡ piece.first ++ (concat piece.later ++ concat (lines_in later)) =
    stands ∙ parts ∙ append_assoc piece.first (concat piece.later) (concat (lines_in later)) in
    let after_front : drop (start + length (concat front)) page ≡ concat (lines_in later) =
    sym (drop-drop (length (concat front)) start page) ∙ ap (drop (length (concat front))) (stands ∙ parts)
    ∙ drop-append_seam (concat front) (concat (lines_in later)) in
    let offset = (match_line before.containers piece.first).state in
    let begins = started_after_have page piece.first (concat piece.later ++ concat (lines_in later)) start first piece.header
    (asked_between before piece.first) piece.begun offset
    opened.position
    (on_bytes (is_blank piece.first) before.containers (start_of piece.first)) opened.begins in
    let gone = replicate (length before.containers - length piece.kept) ends in
    let own : AreMarked page (piece_events before.containers start piece are.0) =
    both_have page (gone ++ started start offset piece.begun) (map leaf are.0)
    (both_have page gone (started start offset piece.begun) (ends_have page (length before.containers - length piece.kept)) begins) (leaves_have page are.0) in
    subst (AreMarked page) (sym are.3) (both_have page (piece_events before.containers start piece are.0) are.1 own
    (pieces_have page later (opened_by before piece) (line + length front) (start + length (concat front)) are.1 each.1 are.4 after_front))

-- On each page a label stands where a footnote definition begins, and a colon where the definition of a term does.
pub extensions_are_marked : (asked : Extensions) (page : List ℕ) (events : List Event) → IsEventsOf asked page events → AreMarked page events
extensions_are_marked asked page events h =
    let whole : text_of page ≡ concat (lines_in h.0) = sym (lines_joined (text_of page)) ∙ ap concat (sym h.2.joined) in
    subst (AreMarked page) (sym h.4) (both_have page h.1 (replicate (open_after 0 h.0) ends)
    (pieces_have page h.0 (root asked) 0 (text_start page) h.1 h.2.each h.3 whole) (ends_have page (open_after 0 h.0)))
