-- The runs of a cell's bytes between the backslashes that are left out, and its content.
use Rattle.std.proofs.Common.{ℕ, zero, suc, ◌+◌, ◌-◌, ◌^◌, ◌<◌, ◌≤◌, Bool, true, false, List, [], ◌∷◌, ◌++◌, length, take, drop, map, get_or, if◌then◌else◌}
use Rattle.std.proofs.Common.{◌≡◌, ◌≢◌, refl, sym, ap, subst, inl, inr, min, ◌∙◌, arith, append-nil, append_assoc, length-append}
use Rattle.std.specs.List.{flat_map, range_with_len}
use Rattle.std.specs.Prelude.{◌==◌, ◌||◌}
use Rattle.std.proofs.lemmas.Bool.{eqb-true}
use Rattle.std.proofs.lemmas.Bool.Decides.{eqb_tells, leb_tells}
use Rattle.std.proofs.lemmas.List.{drop_all, get_or-drop, get_or-take, drop_more, length-drop, length-take, length-take-le}
use Rattle.std.proofs.lemmas.List.FromFn.{get_or-map-range_with_len, length-range_with_len}
use Rattle.std.proofs.Math.Seq.{take-length}
use Rattle.markdown_blocks.specs.cells.Contents.{bytes_of_cell, content_of_cell, escape_at, escapes_pipe, unescaped, unescaped_offsets}
use Rattle.markdown_scanners_tree.specs.Ascii.{backslash, space, vertical_line}
use Rattle.markdown_scanners_tree.specs.Bytes.{begins_with}
use Rattle.markdown_scanners_tree.specs.scanners.tables.DelimiterRow.{is_pipe}
use Rattle.markdown_scanners_tree.proofs.PrefixLemmas.{both_true}
use Rattle.markdown_blocks.specs.content.Bytes.{AreBytesOf, IsByteAt}
use Rattle.markdown_blocks.specs.content.Content.{Placed, offsets_of, text_of}
use Rattle.markdown_blocks.specs.content.Parts.{Part}
use Rattle.markdown_blocks.specs.content.Segments.{Held, Rising, offset_at, segments_from}
use Rattle.markdown_blocks.specs.declared.cells.Cell.{Cell}
use Rattle.markdown_blocks.specs.declared.content.Segment.{Segment}
use Rattle.markdown_blocks.proofs.content.RunLemmas.{is_run_decided}
use Rattle.markdown_blocks.proofs.content.SegmentLemmas.{lent_seen, offsets_all, rising_parts, seen, start}

-- the bytes before the first backslash that escapes a pipe, and those after each
abbrev pub run_part : ℕ → List ℕ → Part
run_part offset bytes = record { columns = 0; filler = space; offset = offset; bytes = take (escape_at bytes) bytes }

abbrev pub later_runs : ℕ → List ℕ → List Part
later_runs offset [] = []
later_runs offset (b ∷ bs) = (if escapes_pipe (b ∷ bs) then run_part (offset + 1) bs ∷ [] else []) ++ later_runs (offset + 1) bs

abbrev pub runs : ℕ → List ℕ → List Part
runs offset bytes = run_part offset bytes ∷ later_runs offset bytes

-- joined they are the content
pub runs_text : (from : ℕ) (bytes : List ℕ) → flat_map text_of (runs from bytes) ≡ unescaped bytes
runs_text from [] = refl
runs_text from (b ∷ bs) = by (escapes_pipe (b ∷ bs)) refl (runs_text (from + 1) bs)
  where
    by : (s : Bool) → escapes_pipe (b ∷ bs) ≡ s → flat_map text_of (runs (from + 1) bs) ≡ unescaped bs
        → flat_map text_of (runs from (b ∷ bs)) ≡ unescaped (b ∷ bs)
    by true is here = rw is here
    by false is here = rw is (ap (λ t. b ∷ t) here)

pub runs_offsets : (from : ℕ) (bytes : List ℕ) → flat_map offsets_of (runs from bytes) ≡ unescaped_offsets from bytes
runs_offsets from [] = refl
runs_offsets from (b ∷ bs) = by (escapes_pipe (b ∷ bs)) refl (runs_offsets (from + 1) bs)
  where
    by : (s : Bool) → escapes_pipe (b ∷ bs) ≡ s → flat_map offsets_of (runs (from + 1) bs) ≡ unescaped_offsets (from + 1) bs
        → flat_map offsets_of (runs from (b ∷ bs)) ≡ unescaped_offsets from (b ∷ bs)
    by true is here = rw is here
    by false is here = rw is (ap (λ t. from ∷ t) here)

-- the next of them
pub runs_on : (from : ℕ) (bytes : List ℕ) → later_runs from bytes ≡ later_runs (from + escape_at bytes) (drop (escape_at bytes) bytes)
runs_on from [] = refl
runs_on from (b ∷ bs) = by (escapes_pipe (b ∷ bs)) refl (runs_on (from + 1) bs)
  where
    by : (s : Bool) → escapes_pipe (b ∷ bs) ≡ s → later_runs (from + 1) bs ≡ later_runs (from + 1 + escape_at bs) (drop (escape_at bs) bs)
        → later_runs from (b ∷ bs) ≡ later_runs (from + escape_at (b ∷ bs)) (drop (escape_at (b ∷ bs)) (b ∷ bs))
    by true is here =
        let at : from ≡ from + 0 = omega arith in
        let none : escape_at (b ∷ bs) ≡ 0 = rw is refl in
        ap (λ p. later_runs p (b ∷ bs)) at ∙ ap (λ n. later_runs (from + n) (drop n (b ∷ bs))) (sym none)
    by false is here =
        let at : from + 1 + escape_at bs ≡ from + suc (escape_at bs) = omega arith in
        let more : escape_at (b ∷ bs) ≡ suc (escape_at bs) = rw is refl in
        let skipped : later_runs from (b ∷ bs) ≡ later_runs (from + 1) bs = rw is refl in
        skipped ∙ here ∙ ap (λ p. later_runs p (drop (escape_at bs) bs)) at
        ∙ ap (λ n. later_runs (from + n) (drop n (b ∷ bs))) (sym more)

pub at_escape : (bytes : List ℕ) → escape_at (drop (escape_at bytes) bytes) ≡ 0
at_escape [] = refl
at_escape (b ∷ bs) = by (escapes_pipe (b ∷ bs)) refl (at_escape bs)
  where
    by : (s : Bool) → escapes_pipe (b ∷ bs) ≡ s → escape_at (drop (escape_at bs) bs) ≡ 0 → escape_at (drop (escape_at (b ∷ bs)) (b ∷ bs)) ≡ 0
    by true is here =
        let none : escape_at (b ∷ bs) ≡ 0 = rw is refl in
        ap (λ n. escape_at (drop n (b ∷ bs))) none ∙ none
    by false is here =
        let more : escape_at (b ∷ bs) ≡ suc (escape_at bs) = rw is refl in
        ap (λ n. escape_at (drop n (b ∷ bs))) more ∙ here

pub next_run : (end : ℕ) (rest : List ℕ) → escape_at rest ≡ 0 → 1 ≤ length rest → later_runs end rest ≡ runs (end + 1) (drop 1 rest)
next_run end [] here some = absurd (omega arith)
next_run end (b ∷ bs) here some = by (escapes_pipe (b ∷ bs)) refl
  where
    by : (s : Bool) → escapes_pipe (b ∷ bs) ≡ s → later_runs end (b ∷ bs) ≡ runs (end + 1) bs
    by true is = rw is refl
    by false is =
        let more : escape_at (b ∷ bs) ≡ suc (escape_at bs) = rw is refl in
        absurd (omega (arith, more, here))

-- a run more of what is built
module _ (texts : List ℕ) (segments : List Segment) (text new_text : List ℕ) (old new : List Segment) (at end : ℕ) (unread run rest : List ℕ)
    (parts : List Part) (is : parts ≡ runs at unread) (front_is : run ≡ take (escape_at unread) unread) (back : rest ≡ drop (escape_at unread) unread)
    (low : escape_at unread ≤ length unread) (ends : end ≡ at + length run) (more : new_text ≡ text ++ run)
    (with_segment : new ≡ old ++ record { offset = length text; columns = 0; source = at } ∷ []) where
  run_size : length run ≡ escape_at unread
  run_size = ap length front_is ∙ length-take-le (escape_at unread) unread low

  left : later_runs at unread ≡ later_runs end rest
  left =
      let to : at + escape_at unread ≡ end = omega (arith, ends, run_size) in
      runs_on at unread ∙ ap (λ r. later_runs (at + escape_at unread) r) (sym back) ∙ ap (λ p. later_runs p rest) to

  pub run_text : text ++ flat_map text_of parts ≡ texts → new_text ++ flat_map text_of (later_runs end rest) ≡ texts
  run_text so_far =
      ap (λ t. t ++ flat_map text_of (later_runs end rest)) (more ∙ ap (λ r. text ++ r) front_is)
      ∙ append_assoc text (take (escape_at unread) unread) (flat_map text_of (later_runs end rest))
      ∙ ap (λ ps. text ++ (take (escape_at unread) unread ++ flat_map text_of ps)) (sym left)
      ∙ ap (λ ps. text ++ flat_map text_of ps) (sym is) ∙ so_far

  pub run_segments : old ++ segments_from (length text) parts ≡ segments → new ++ segments_from (length new_text) (later_runs end rest) ≡ segments
  run_segments so_far =
      let here : Segment = record { offset = length text; columns = 0; source = at } in
      let size : length new_text ≡ length text + length (take (escape_at unread) unread) =
      ap length more ∙ length-append text run ∙ ap (λ r. length text + length r) front_is in
      ap (λ ss. ss ++ segments_from (length new_text) (later_runs end rest)) with_segment
      ∙ append_assoc old (here ∷ []) (segments_from (length new_text) (later_runs end rest))
      ∙ ap (λ n. old ++ here ∷ segments_from n (later_runs end rest)) size
      ∙ ap (λ ps. old ++ here ∷ segments_from (length text + length (take (escape_at unread) unread)) ps) (sym left)
      ∙ ap (λ ps. old ++ segments_from (length text) ps) (sym is) ∙ so_far

  pub run_stops : escape_at rest ≡ 0
  run_stops = ap escape_at back ∙ at_escape unread

  pub run_ends : end + length rest ≡ at + length unread
  run_ends = omega (arith, ends, run_size, low, ap length back, length-drop (escape_at unread) unread)

-- a byte more before the first such backslash
pub escape_here : (bytes : List ℕ) (i : ℕ) → i < length bytes → escapes_pipe (drop i bytes) ≡ true → escape_at (drop i bytes) ≡ 0
escape_here bytes i below is = by (drop i bytes) refl
  where
    by : (rest : List ℕ) → drop i bytes ≡ rest → escape_at (drop i bytes) ≡ 0
    by [] at = ap escape_at at
    by (b ∷ bs) at = let given = rw at at is in rw (at, given) refl

pub escape_on : (bytes : List ℕ) (i : ℕ) → i < length bytes → escapes_pipe (drop i bytes) ≡ false
    → escape_at (drop i bytes) ≡ suc (escape_at (drop (i + 1) bytes))
escape_on bytes i below is =
    let at = drop_more bytes i 0 below in
    let given = rw at at is in
    rw (at, given) refl

-- each offset is one of the bytes'
pub offsets_below : (offset limit : ℕ) (bytes : List ℕ) (i : ℕ) → offset + length bytes < limit → get_or (unescaped_offsets offset bytes) i 0 < limit
offsets_below offset limit [] i fits = omega (arith, fits)
offsets_below offset limit (b ∷ bs) i fits = by (escapes_pipe (b ∷ bs)) refl i (λ j. offsets_below (offset + 1) limit bs j (omega (arith, fits)))
  where
    by : (s : Bool) → escapes_pipe (b ∷ bs) ≡ s → (i : ℕ) → ((j : ℕ) → get_or (unescaped_offsets (offset + 1) bs) j 0 < limit)
        → get_or (unescaped_offsets offset (b ∷ bs)) i 0 < limit
    by true is i here = rw is (here i)
    by false is zero here = rw is (omega (arith, fits))
    by false is (suc i) here = rw is (here i)

-- where a pipe is escaped, that stays
not_none : (n : ℕ) → 0 < n → (n == 0) ≡ false
not_none n some = elim (eqb_tells n 0) [
  | inl same ↦ absurd (omega (arith, some, same.1))
  | inr apart ↦ apart.0
]

pipe_left : (bytes : List ℕ) → begins_with is_pipe bytes ≡ true → 0 < length (unescaped bytes)
pipe_left [] begins = absurd (cc)
pipe_left (b ∷ bs) begins =
    let pipe : b ≡ vertical_line = eqb-true b vertical_line begins in
    rw pipe (omega arith)

some_left : (bytes : List ℕ) → escape_at bytes < length bytes → 0 < length (unescaped bytes)
some_left [] low = absurd (omega (arith, low))
some_left (b ∷ bs) low = by (escapes_pipe (b ∷ bs)) refl
  where
    by : (s : Bool) → escapes_pipe (b ∷ bs) ≡ s → 0 < length (unescaped (b ∷ bs))
    by true is = rw is (pipe_left bs (both_true (b == backslash) (begins_with is_pipe bs) is).1)
    by false is = rw is (omega arith)

-- what is built of all runs
module _ (source : ℕ) (bytes text : List ℕ) (segments : List Segment) (rest : List ℕ) (end : ℕ) (none : rest ≡ [])
    (texts : text ++ flat_map text_of (later_runs end rest) ≡ flat_map text_of (runs source bytes))
    (all : segments ++ segments_from (length text) (later_runs end rest) ≡ segments_from 0 (runs source bytes)) where
  no_more : later_runs end rest ≡ []
  no_more = ap (later_runs end) none

  text_is : text ≡ flat_map text_of (runs source bytes)
  text_is = sym (append-nil text) ∙ ap (λ ps. text ++ flat_map text_of ps) (sym no_more) ∙ texts

  segments_are : segments ≡ segments_from 0 (runs source bytes)
  segments_are = sym (append-nil segments) ∙ ap (λ ps. segments ++ segments_from (length text) ps) (sym no_more) ∙ all

  all_placed : seen false text (start 0) segments ≡ record { text = unescaped bytes; offsets = unescaped_offsets source bytes; is_lent = false }
  all_placed =
      let n = length (flat_map text_of (runs source bytes)) in
      ap (λ t. record { text = t; offsets = map (offset_at (start 0) segments) (range_with_len 0 (length t)); is_lent = false }) text_is
      ∙ ap (λ ss. record { text = flat_map text_of (runs source bytes); offsets = map (offset_at (start 0) ss) (range_with_len 0 n); is_lent = false })
      segments_are
      ∙ ap (λ ps. record { text = flat_map text_of (runs source bytes); offsets = ps; is_lent = false }) (offsets_all (start 0) 0 (runs source bytes))
      ∙ ap (λ t. record { text = t; offsets = flat_map offsets_of (runs source bytes); is_lent = false }) (runs_text source bytes)
      ∙ ap (λ ps. record { text = unescaped bytes; offsets = ps; is_lent = false }) (runs_offsets source bytes)

  pub all_seen : escape_at bytes < length bytes
      → seen (length text == 0) text (start 0) segments ≡ record { text = unescaped bytes; offsets = unescaped_offsets source bytes; is_lent = false }
  all_seen some =
      let text_left : text ≡ unescaped bytes = text_is ∙ runs_text source bytes in
      let kept : (length text == 0) ≡ false = ap (λ t. length t == 0) text_left ∙ not_none (length (unescaped bytes)) (some_left bytes some) in
      ap (λ q. seen q text (start 0) segments) kept ∙ all_placed

  pub all_held : source + length bytes < 2 ^ 64 → Held [] text (start 0) segments
  all_held fits = record {
    one = inl refl;
    begins = refl;
    rising = subst (Rising 0) (sym segments_are) (rising_parts 0 (runs source bytes) 0 (omega arith));
    fits = λ offset low.
        let f = offset_at (start 0) segments in
        let n = length text in
        let at : get_or (map f (range_with_len 0 n)) offset 0 ≡ f offset = get_or-map-range_with_len f 0 n offset offset 0 low (omega arith) in
        let is : map f (range_with_len 0 n) ≡ unescaped_offsets source bytes = ap (λ (p : Placed). p.offsets) all_placed in
        subst (λ m. m < 2 ^ 64) at (subst (λ ms. get_or ms offset 0 < 2 ^ 64) (sym is) (offsets_below source (2 ^ 64) bytes offset fits));
  }

-- what is lent
pub lent_runs : (bytes : List ℕ) (from : ℕ) → escape_at bytes ≡ length bytes
    → seen true bytes (start from) [] ≡ record { text = unescaped bytes; offsets = unescaped_offsets from bytes; is_lent = true }
lent_runs bytes from none =
    let n = length bytes in
    let run : Part = record { columns = 0; filler = space; offset = from; bytes = bytes } in
    let whole : take (escape_at bytes) bytes ≡ bytes = ap (λ k. take k bytes) none ∙ take-length bytes in
    let no_more : later_runs from bytes ≡ [] =
    runs_on from bytes ∙ ap (later_runs (from + escape_at bytes)) (drop_all (escape_at bytes) bytes (omega (arith, none))) in
    let alone : runs from bytes ≡ run ∷ [] =
    ap (λ ps. run_part from bytes ∷ ps) no_more ∙ ap (λ bs. record { columns = 0; filler = space; offset = from; bytes = bs } ∷ []) whole in
    let text : flat_map text_of (run ∷ []) ≡ unescaped bytes = ap (flat_map text_of) (sym alone) ∙ runs_text from bytes in
    let offsets : flat_map offsets_of (run ∷ []) ≡ unescaped_offsets from bytes = ap (flat_map offsets_of) (sym alone) ∙ runs_offsets from bytes in
    let joined_text : bytes ++ [] ≡ bytes = append-nil bytes in
    let count : length (range_with_len from n ++ []) ≡ n = ap length (append-nil (range_with_len from n)) ∙ length-range_with_len from n in
    ap (λ t. seen true t (start from) []) (sym (take-length bytes))
    ∙ lent_seen bytes from n (run ∷ []) (omega arith) (joined_text, (refl, refl, tt))
    ∙ ap (λ q. record { text = take n (bytes ++ []); offsets = take n (range_with_len from n ++ []); is_lent = q || n == 0 })
    (is_run_decided from (run ∷ []) (refl, refl, tt))
    ∙ ap (λ t. record { text = t; offsets = take n (range_with_len from n ++ []); is_lent = true })
    (ap (take n) joined_text ∙ take-length bytes ∙ sym joined_text ∙ text)
    ∙ ap (λ ps. record { text = unescaped bytes; offsets = ps; is_lent = true })
    (ap (λ k. take k (range_with_len from n ++ [])) (sym count) ∙ take-length (range_with_len from n ++ []) ∙ offsets)

pub no_bytes : (bytes : List ℕ) → length bytes < 1 → bytes ≡ []
no_bytes [] few = refl
no_bytes (b ∷ bs) few = absurd (omega arith)

-- where a cell begins in its row, or after it
pub content_is : (row : List ℕ) (cell : Cell) (offset : ℕ) (bytes : List ℕ) (lent : Bool) → bytes ≡ bytes_of_cell row cell → offset ≡ min cell.start (length row)
    → (length row ≤ cell.start → bytes ≡ []) → (escape_at bytes == length bytes) ≡ lent
    → record { text = unescaped bytes; offsets = unescaped_offsets offset bytes; is_lent = lent } ≡ content_of_cell row cell
content_is row cell offset bytes lent is at none whole =
    let same : unescaped_offsets offset bytes ≡ unescaped_offsets cell.start bytes = elim (leb_tells (length row) cell.start) [
      | inl past ↦ (let empty = none past.1 in ap (unescaped_offsets offset) empty ∙ sym (ap (unescaped_offsets cell.start) empty))
      | inr inside ↦ ap (λ p. unescaped_offsets p bytes) (omega (arith, at, inside.1))
    ] in
    ap (λ ps. record { text = unescaped bytes; offsets = ps; is_lent = lent }) same
    ∙ ap (λ q. record { text = unescaped bytes; offsets = unescaped_offsets cell.start bytes; is_lent = q }) (sym whole)
    ∙ ap (λ b. record { text = unescaped b; offsets = unescaped_offsets cell.start b; is_lent = escape_at b == length b }) is

-- each byte stands in the row at its offset
abbrev Stands : List ℕ → ℕ → List ℕ → Type 0
Stands row offset bytes = (k : ℕ) → k < length bytes → (offset + k < length row) × (get_or bytes k 0 ≡ get_or row (offset + k) 0)

bytes_at : (row : List ℕ) (offset : ℕ) (bytes : List ℕ) → Stands row offset bytes → (i : ℕ) → i < length (unescaped bytes)
    → IsByteAt row (get_or (unescaped bytes) i 0) (get_or (unescaped_offsets offset bytes) i 0)
bytes_at row offset [] stands i low = absurd (omega (arith, low))
bytes_at row offset (b ∷ bs) stands i low =
    by (escapes_pipe (b ∷ bs)) refl i low (bytes_at row (offset + 1) bs (λ k small.
    let here = stands (suc k) (omega (arith, small)) in
    let further : offset + suc k ≡ offset + 1 + k = omega arith in
    subst (λ p. (p < length row) × (get_or bs k 0 ≡ get_or row p 0)) further here))
  where
    by : (s : Bool) → escapes_pipe (b ∷ bs) ≡ s → (i : ℕ) → i < length (unescaped (b ∷ bs))
        → ((j : ℕ) → j < length (unescaped bs) → IsByteAt row (get_or (unescaped bs) j 0) (get_or (unescaped_offsets (offset + 1) bs) j 0))
        → IsByteAt row (get_or (unescaped (b ∷ bs)) i 0) (get_or (unescaped_offsets offset (b ∷ bs)) i 0)
    by true is i low later = let small = rw is at low in rw is (later i small)
    by false is zero low later =
        let here = stands 0 (omega arith) in
        let at : offset + 0 ≡ offset = omega arith in
        rw is (subst (λ p. IsByteAt row b p) at (here.0, inl here.1))
    by false is (suc i) low later = let small = rw is at low in rw is (later i (omega (arith, small)))

pub cell_bytes : (row : List ℕ) (cell : Cell) → AreBytesOf row (content_of_cell row cell)
cell_bytes row cell = bytes_at row cell.start (bytes_of_cell row cell) (λ k low.
    let n = cell.end - cell.start in
    let size = length-take n (drop cell.start row) in
    let counted = length-drop cell.start row in (
      omega (arith, low, size, counted),
      get_or-take n (drop cell.start row) k 0 (omega (arith, low, size)) ∙ get_or-drop cell.start row k 0,
    ))

-- a backslash that is left out
unescaped-le : (bytes : List ℕ) → length (unescaped bytes) ≤ length bytes
unescaped-le [] = omega arith
unescaped-le (b ∷ bs) = by (escapes_pipe (b ∷ bs)) refl (unescaped-le bs)
  where
    by : (s : Bool) → escapes_pipe (b ∷ bs) ≡ s → length (unescaped bs) ≤ length bs → length (unescaped (b ∷ bs)) ≤ length (b ∷ bs)
    by true is here = rw is (omega (arith, here))
    by false is here = rw is (omega (arith, here))

fewer : (bytes : List ℕ) → escape_at bytes < length bytes → length (unescaped bytes) < length bytes
fewer [] low = absurd (omega (arith, low))
fewer (b ∷ bs) low = by (escapes_pipe (b ∷ bs)) refl (fewer bs) low
  where
    by : (s : Bool) → escapes_pipe (b ∷ bs) ≡ s → (escape_at bs < length bs → length (unescaped bs) < length bs) → escape_at (b ∷ bs) < length (b ∷ bs)
        → length (unescaped (b ∷ bs)) < length (b ∷ bs)
    by true is here low = rw is (omega (arith, unescaped-le bs))
    by false is here low = let small = rw is at low in rw is (omega (arith, here (omega (arith, small))))

pub not_same : (bytes cell : List ℕ) (n : ℕ) → bytes ≡ cell → n ≡ escape_at bytes → n ≤ length bytes → n ≢ length bytes → ¬ (unescaped cell ≡ cell)
not_same bytes cell n is at low other same =
    let small : escape_at bytes < length bytes = omega (arith, at, low, other) in
    let size : length (unescaped bytes) ≡ length bytes = ap (λ b. length (unescaped b)) is ∙ ap length same ∙ ap length (sym is) in
    absurd (omega (arith, fewer bytes small, size))

-- a pipe is escaped
pub escaped_apart : (bytes : List ℕ) (n : ℕ) → n ≡ escape_at bytes → n ≢ length bytes → (escape_at bytes == length bytes) ≡ false
escaped_apart bytes n at other = elim (eqb_tells (escape_at bytes) (length bytes)) [
  | inl same ↦ absurd (other (at ∙ same.1))
  | inr apart ↦ apart.0
]
