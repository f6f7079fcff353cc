-- Segments, and the offsets of bytes in them.
use Rattle.std.proofs.Common.{ℕ, zero, suc, ◌+◌, ◌-◌, ◌^◌, ◌<◌, ◌≤◌, ◌≡◌, List, [], ◌∷◌, ◌++◌, length, take, drop, map, replicate, get_or}
use Rattle.std.proofs.Common.{refl, sym, ap, ◌∙◌, subst, inl, inr, arith, length-append}
use Rattle.std.specs.List.{AllByRecursion, flat_map, range_with_len}
use Rattle.std.proofs.lemmas.Bool.{le-leb, lt-leb, lt-ltb, le-ltb}
use Rattle.std.proofs.lemmas.Bool.Decides.{leb_tells}
use Rattle.std.specs.Prelude.{Bool, true, false, slice_index, ◌==◌, ◌||◌}
use Rattle.std.proofs.lemmas.List.{drop-drop, drop_all, drop_more, get_or_default, length-replicate, length-take-le, map-append}
use Rattle.std.proofs.lemmas.List.FromFn.{get_or-map-range_with_len, take-map-range_with_len}
use Rattle.markdown_scanners_tree.specs.Ascii.{space}
use Rattle.markdown_blocks.specs.content.Content.{IsRunOf, Placed, front, joined, offsets_of, text_of}
use Rattle.markdown_blocks.specs.content.Parts.{Part, is_one_run}
use Rattle.markdown_blocks.specs.content.Seen.{IsIn}
use Rattle.markdown_blocks.specs.content.Left.{IsRunAt}
use Rattle.markdown_blocks.specs.content.Segments.{Held, Rising, offset_at, offset_in, segments_from}
use Rattle.markdown_blocks.specs.declared.content.Segment.{Segment}
use Rattle.markdown_blocks.proofs.content.RunLemmas.{is_run_decided, range_on, run_offsets}

-- where the segment at k begins at the offset or before it, it is reached
rising_low : (offset : ℕ) (xs : List Segment) (k : ℕ) (s : Segment) (post : List Segment) → Rising offset xs → drop k xs ≡ s ∷ post → offset ≤ s.offset
rising_low offset [] zero s post r at = cc
rising_low offset [] (suc k) s post r at = cc
rising_low offset (x ∷ xs) zero s post r at = let same : x ≡ s = cc in subst (λ (y : Segment). offset ≤ y.offset) same r.0
rising_low offset (x ∷ xs) (suc k) s post r at = omega (arith, r.0, rising_low x.offset xs k s post r.1 at)

pub rising_on : (offset : ℕ) (xs : List Segment) (k : ℕ) (s : Segment) (post : List Segment) → Rising offset xs → drop k xs ≡ s ∷ post → Rising s.offset post
rising_on offset [] zero s post r at = cc
rising_on offset [] (suc k) s post r at = cc
rising_on offset (x ∷ xs) zero s post r at =
    let same : x ≡ s = cc in
    let rest : xs ≡ post = cc in
    subst (λ (y : Segment). Rising y.offset post) same (subst (Rising x.offset) rest r.1)
rising_on offset (x ∷ xs) (suc k) s post r at = rising_on x.offset xs k s post r.1 at

first_reached : (found s : Segment) (post : List Segment) (i : ℕ) → s.offset ≤ i → offset_at found (s ∷ post) i ≡ offset_at s post i
first_reached found s post i low = rw (le-leb s.offset i low) refl

pub reached : (found : Segment) (xs : List Segment) (k : ℕ) (s : Segment) (post : List Segment) (i : ℕ) → Rising found.offset xs
    → drop k xs ≡ s ∷ post → s.offset ≤ i → offset_at found xs i ≡ offset_at s post i
reached found [] zero s post i r at low = cc
reached found [] (suc k) s post i r at low = cc
reached found (x ∷ xs) zero s post i r at low = ap (λ ys. offset_at found ys i) at ∙ first_reached found s post i low
reached found (x ∷ xs) (suc k) s post i r at low =
    let lower : x.offset ≤ i = omega (arith, low, rising_low x.offset xs k s post r.1 at) in
    first_reached found x xs i lower ∙ reached x xs k s post i r.1 at low

-- where the next one begins later, the offset is in the one before
pub stopped : (found : Segment) (xs : List Segment) (i : ℕ) → ((s : Segment) (post : List Segment) → xs ≡ s ∷ post → i < s.offset)
    → offset_at found xs i ≡ offset_in found i
stopped found [] i later = refl
stopped found (x ∷ xs) i later = rw (lt-leb x.offset i (later x xs refl)) refl

-- a step of the search among segments of which those from `high` on begin after the offset
module _ (found : Segment) (later : List Segment) (offset low high m target : ℕ) (d : Segment) (below : low ≤ m) (above : m < high)
    (within : high ≤ length later) (rising : Rising found.offset (drop low later))
    (aim : offset_at found (drop low later) offset ≡ target) where
  middle : drop (m - low) (drop low later) ≡ get_or later m d ∷ drop (m + 1) later
  middle =
      let at : low + (m - low) ≡ m = omega (arith, below) in
      drop-drop (m - low) low later ∙ ap (λ k. drop k later) at ∙ drop_more later m d (omega (arith, above, within))

  pub upper_rising : Rising (get_or later m d).offset (drop (m + 1) later)
  upper_rising = rising_on found.offset (drop low later) (m - low) (get_or later m d) (drop (m + 1) later) rising middle

  pub upper_low : found.offset ≤ (get_or later m d).offset
  upper_low = rising_low found.offset (drop low later) (m - low) (get_or later m d) (drop (m + 1) later) rising middle

  pub upper_aim : (get_or later m d).offset ≤ offset → offset_at (get_or later m d) (drop (m + 1) later) offset ≡ target
  upper_aim reaches =
      sym (reached found (drop low later) (m - low) (get_or later m d) (drop (m + 1) later) offset rising middle reaches) ∙ aim

  pub lower_after : offset < (get_or later m d).offset → (k : ℕ) (e : Segment) → m ≤ k → k < length later → offset < (get_or later k e).offset
  lower_after after k e from inside = elim (leb_tells (m + 1) k) [
    | inl further ↦ (let at : m + 1 + (k - (m + 1)) ≡ k = omega (arith, further.1) in
        let here : drop (k - (m + 1)) (drop (m + 1) later) ≡ get_or later k e ∷ drop (k + 1) later =
        drop-drop (k - (m + 1)) (m + 1) later ∙ ap (λ n. drop n later) at ∙ drop_more later k e inside in
        omega (arith, after, rising_low (get_or later m d).offset (drop (m + 1) later) (k - (m + 1)) (get_or later k e) (drop (k + 1) later) upper_rising here))
    | inr same ↦ (let at : m ≡ k = omega (arith, from, same.1) in
        let alike : get_or later m d ≡ get_or later k e = ap (λ n. get_or later n d) at ∙ get_or_default later k d e inside in
        subst (λ (s : Segment). offset < s.offset) alike after)
  ]

-- the search has ended before a segment
pub until_next : (found : Segment) (later : List Segment) (low at : ℕ) (d : Segment) → low < length later → at < (get_or later low d).offset
    → offset_at found (drop low later) at ≡ offset_in found at
until_next found later low at d inside before = stopped found (drop low later) at (λ s post is.
    let split : get_or later low d ∷ drop (low + 1) later ≡ s ∷ post = sym (drop_more later low d inside) ∙ is in
    let same : get_or later low d ≡ s = cc in
    subst (λ (t : Segment). at < t.offset) same before)

-- and after the last
pub to_end : (found : Segment) (later : List Segment) (low at : ℕ) → length later ≤ low → offset_at found (drop low later) at ≡ offset_in found at
to_end found later low at past = ap (λ ss. offset_at found ss at) (drop_all low later past)

-- the offset that is given
pub at_offset : (first : Segment) (later : List Segment) (n offset r : ℕ) → offset < n → r ≡ offset_at first later offset
    → r ≡ slice_index (map (offset_at first later) (range_with_len 0 n)) offset
at_offset first later n offset r low is = is ∙ sym (get_or-map-range_with_len (offset_at first later) 0 n offset offset 0 low (omega arith))

pub given_in_columns : (s : Segment) (offset further r : ℕ) → further ≡ offset - s.offset → further < s.columns → r ≡ s.source - 1 → r ≡ offset_in s offset
given_in_columns s offset further r is low given = rw (← is, lt-ltb further s.columns low) given

pub given_in_bytes : (s : Segment) (offset further r : ℕ) → further ≡ offset - s.offset → s.columns ≤ further → r ≡ s.source + (further - s.columns)
    → r ≡ offset_in s offset
given_in_bytes s offset further r is low given = rw (← is, le-ltb further s.columns low) given

-- the segments of parts
pub rising_parts : (offset : ℕ) (parts : List Part) → (low : ℕ) → low ≤ offset → Rising low (segments_from offset parts)
rising_parts offset [] low below = tt
rising_parts offset (p ∷ parts) low below = (below, rising_parts (offset + length (text_of p)) parts offset (omega arith))

before_next : (t : Segment) (k : ℕ) (parts : List Part) (i : ℕ) → i < k → offset_at t (segments_from k parts) i ≡ offset_in t i
before_next t k [] i low = refl
before_next t k (p ∷ parts) i low = rw (lt-leb k i low) refl

abbrev segment_of : ℕ → Part → Segment
segment_of offset p = record { offset = offset; columns = p.columns; source = p.offset }

text_size : (p : Part) → length (text_of p) ≡ p.columns + length p.bytes
text_size p = length-append (replicate p.columns p.filler) p.bytes ∙ ap (λ n. n + length p.bytes) (length-replicate p.columns p.filler)

in_columns : (k i : ℕ) (p : Part) → k ≤ i → i < k + p.columns → offset_in (segment_of k p) i ≡ p.offset - 1
in_columns k i p low high = rw (lt-ltb (i - k) p.columns (omega arith)) refl

in_bytes : (k i : ℕ) (p : Part) → k + p.columns ≤ i → offset_in (segment_of k p) i ≡ p.offset + (i - k - p.columns)
in_bytes k i p low = rw (le-ltb (i - k) p.columns (omega arith)) refl

-- an offset in a part that stands in the lines
in_part : (lines : List ℕ) (k i : ℕ) (p : Part) → IsIn lines p → k ≤ i → i < k + length (text_of p) → length lines < 2 ^ 64
    → offset_in (segment_of k p) i < 2 ^ 64
in_part lines k i p inside low high small =
    let size = text_size p in
    elim (leb_tells (k + p.columns) i) [
      | inl t ↦ omega (arith, in_bytes k i p t.1, inside.0, size, high, small, t.1)
      | inr t ↦ omega (arith, in_columns k i p low t.1, inside.0, small)
    ]

pub in_parts : (lines : List ℕ) (s : Segment) (k : ℕ) (parts : List Part) (i : ℕ) → AllByRecursion (IsIn lines) parts → k ≤ i
    → i < k + length (flat_map text_of parts) → length lines < 2 ^ 64 → offset_at s (segments_from k parts) i < 2 ^ 64
in_parts lines s k [] i all low high small = absurd (omega (arith, low, high))
in_parts lines s k (p ∷ parts) i all low high small =
    let t = segment_of k p in
    let m = length (text_of p) in
    let sizes = length-append (text_of p) (flat_map text_of parts) in
    let here : offset_at s (t ∷ segments_from (k + m) parts) i ≡ offset_at t (segments_from (k + m) parts) i = first_reached s t _ i low in
    elim (leb_tells (k + m) i) [
      | inl r ↦ omega (arith, here, in_parts lines t (k + m) parts i all.1 r.1 (omega (arith, high, sizes)) small)
      | inr r ↦ omega (arith, here, before_next t (k + m) parts i r.1, in_part lines k i p all.0 low r.1 small)
    ]

-- functions that agree on a range
range_same : (f g : ℕ → ℕ) (k n : ℕ) → ((i : ℕ) → k ≤ i → i < k + n → f i ≡ g i) → map f (range_with_len k n) ≡ map g (range_with_len k n)
range_same f g k zero same = refl
range_same f g k (suc n) same =
    ap (λ x. x ∷ map f (range_with_len (k + 1) n)) (same k (omega arith) (omega arith))
    ∙ ap (λ xs. g k ∷ xs) (range_same f g (k + 1) n (λ i low high. same i (omega arith) (omega arith)))

range_both : (k m n : ℕ) → range_with_len k (m + n) ≡ range_with_len k m ++ range_with_len (k + m) n
range_both k m n = sym (range_on k m n)

range_const : (a k n : ℕ) → map (λ _. a) (range_with_len k n) ≡ replicate n a
range_const a k zero = refl
range_const a k (suc n) = ap (λ xs. a ∷ xs) (range_const a (k + 1) n)

range_moved : (a k n : ℕ) → map (λ i. a + (i - k)) (range_with_len k n) ≡ range_with_len a n
range_moved a k zero = refl
range_moved a k (suc n) =
    ap (λ x. x ∷ map (λ i. a + (i - k)) (range_with_len (k + 1) n)) (omega arith)
    ∙ ap (λ xs. a ∷ xs) (range_same (λ i. a + (i - k)) (λ i. a + 1 + (i - (k + 1))) (k + 1) n (λ i low high. omega arith)
    ∙ range_moved (a + 1) (k + 1) n)

-- the offsets of one part
pub offsets_in : (k : ℕ) (p : Part) → map (offset_in (segment_of k p)) (range_with_len k (length (text_of p))) ≡ offsets_of p
offsets_in k p =
    let f = offset_in (segment_of k p) in
    ap (λ n. map f (range_with_len k n)) (text_size p)
    ∙ ap (map f) (range_both k p.columns (length p.bytes))
    ∙ map-append f (range_with_len k p.columns) (range_with_len (k + p.columns) (length p.bytes))
    ∙ ap (λ xs. xs ++ map f (range_with_len (k + p.columns) (length p.bytes)))
    (range_same f (λ _. p.offset - 1) k p.columns (λ i low high. in_columns k i p low high) ∙ range_const (p.offset - 1) k p.columns)
    ∙ ap (λ xs. replicate p.columns (p.offset - 1) ++ xs)
    (range_same f (λ i. p.offset + (i - (k + p.columns))) (k + p.columns) (length p.bytes)
    (λ i low high. in_bytes k i p low ∙ ap (λ n. p.offset + n) (omega arith)) ∙ range_moved p.offset (k + p.columns) (length p.bytes))

-- the offsets of all parts
pub offsets_all : (s : Segment) (k : ℕ) (parts : List Part)
    → map (offset_at s (segments_from k parts)) (range_with_len k (length (flat_map text_of parts))) ≡ flat_map offsets_of parts
offsets_all s k [] = refl
offsets_all s k (p ∷ parts) =
    let t = segment_of k p in
    let m = length (text_of p) in
    let n = length (flat_map text_of parts) in
    let f = offset_at s (segments_from k (p ∷ parts)) in
    ap (λ c. map f (range_with_len k c)) (length-append (text_of p) (flat_map text_of parts))
    ∙ ap (map f) (range_both k m n) ∙ map-append f (range_with_len k m) (range_with_len (k + m) n)
    ∙ ap (λ xs. xs ++ map f (range_with_len (k + m) n))
    (range_same f (offset_in t) k m (λ i low high. first_reached s t (segments_from (k + m) parts) i low ∙ before_next t (k + m) parts i high)
    ∙ offsets_in k p)
    ∙ ap (λ xs. offsets_of p ++ xs)
    (range_same f (offset_at t (segments_from (k + m) parts)) (k + m) n
    (λ i low high. first_reached s t (segments_from (k + m) parts) i (omega arith)) ∙ offsets_all t (k + m) parts)

-- what contracts see of a content that holds these
abbrev pub seen : Bool → List ℕ → Segment → List Segment → Placed
seen lent text first later = record { text = text; offsets = map (offset_at first later) (range_with_len 0 (length text)); is_lent = lent }

-- a run of it around an offset, in this segment, which goes on up to the end
module _ (lent : Bool) (text : List ℕ) (first : Segment) (later : List Segment) (offset : ℕ) (s : Segment) (end : ℕ) (begins : s.offset ≤ offset)
    (ends : offset < end) (within : end ≤ length text)
    (is : (at : ℕ) → s.offset ≤ at → at < end → offset_in s at ≡ offset_at first later at) where
  offset_there : (at : ℕ) → s.offset ≤ at → at < end → slice_index (seen lent text first later).offsets at ≡ offset_in s at
  offset_there at from to = sym (at_offset first later (length text) at (offset_in s at) (omega (arith, to, within)) (is at from to))

  pub column_run : offset - s.offset < s.columns
      → IsRunOf (seen lent text first later) (record { start = offset; end = offset + 1; source = s.source - 1 })
  column_run before = record {
    within = omega (arith, ends, within);
    offsets = λ at from to.
        let same : offset ≡ at = omega (arith, from, to) in
        let here = given_in_columns s offset (offset - s.offset) (s.source - 1) refl before refl in
        subst (λ k. slice_index (seen lent text first later).offsets k ≡ s.source - 1 + (k - offset)) same
        (offset_there offset begins ends ∙ (sym here ∙ omega arith));
  }

  pub byte_run : (start : ℕ) → start ≡ offset - (offset - s.offset - s.columns) → s.columns ≤ offset - s.offset
      → IsRunOf (seen lent text first later) (record { start = start; end = end; source = s.source })
  byte_run start starts after = record {
    within = within;
    offsets = λ at from to.
        let low : s.offset + s.columns ≤ at = omega (arith, starts, from, after, begins) in
        let here = given_in_bytes s at (at - s.offset) (s.source + (at - s.offset - s.columns)) refl (omega (arith, low)) refl in
        offset_there at (omega (arith, low)) to
        ∙ (sym here ∙ ap (λ k. s.source + k) (omega (arith, starts, after, begins)));
  }

-- before all segments
abbrev pub start : ℕ → Segment
start source = record { offset = 0; columns = 0; source = source }

-- what is built of the parts
module _ (lines : List ℕ) (parts : List Part) (text kept : List ℕ) (segments : List Segment) (n : ℕ) (is : text ≡ flat_map text_of parts)
    (segs : segments ≡ segments_from 0 parts) (cut : kept ≡ take n text) (within : n ≤ length text) where
  size : length kept ≡ n
  size = ap length cut ∙ length-take-le n text within

  pub built_held : AllByRecursion (IsIn lines) parts → length lines < 2 ^ 64 → Held [] kept (start 0) segments
  built_held all small = record {
    one = inl refl;
    begins = refl;
    rising = subst (Rising 0) (sym segs) (rising_parts 0 parts 0 (omega arith));
    fits = λ offset low. subst (λ ss. offset_at (start 0) ss offset < 2 ^ 64) (sym segs)
        (in_parts lines (start 0) 0 parts offset all (omega arith) (omega (arith, low, size, within, ap length is)) small);
  }

  pub built_seen : is_one_run parts ≡ false → seen (length kept == 0) kept (start 0) segments ≡ front n (joined parts)
  built_seen broken =
      let lent = length kept == 0 in
      let given : List ℕ → ℕ → Bool → Placed =
      λ t m q. record { text = t; offsets = map (offset_at (start 0) (segments_from 0 parts)) (range_with_len 0 m); is_lent = q } in
      let whole = length (flat_map text_of parts) in
      let low : n ≤ whole = omega (arith, within, ap length is) in
      ap (λ ss. seen lent kept (start 0) ss) segs
      ∙ ap (λ t. given t (length kept) lent) (cut ∙ ap (take n) is)
      ∙ ap (λ m. given (take n (flat_map text_of parts)) m lent) size
      ∙ ap (λ q. given (take n (flat_map text_of parts)) n q)
      (ap (λ k. k == 0) size ∙ sym (ap (λ b. b || n == 0) broken))
      ∙ ap (λ ps. record { text = take n (flat_map text_of parts); offsets = ps; is_lent = is_one_run parts || n == 0 })
      (sym (take-map-range_with_len (offset_at (start 0) (segments_from 0 parts)) 0 whole n low) ∙ ap (take n) (offsets_all (start 0) 0 parts))

-- what is built of the parts, where a segment for the first stands by itself
module _ (lines : List ℕ) (p : Part) (parts : List Part) (text kept : List ℕ) (segments : List Segment) (n : ℕ)
    (is : text ≡ flat_map text_of (p ∷ parts)) (segs : segments ≡ segments_from (length (text_of p)) parts) (cut : kept ≡ take n text)
    (within : n ≤ length text) where
  same_offset : (offset : ℕ) → offset_at (segment_of 0 p) segments offset ≡ offset_at (start 0) (segments_from 0 (p ∷ parts)) offset
  same_offset offset =
      let zero : length (text_of p) ≡ 0 + length (text_of p) = omega arith in
      ap (λ ss. offset_at (segment_of 0 p) ss offset) (segs ∙ ap (λ k. segments_from k parts) zero)
      ∙ sym (first_reached (start 0) (segment_of 0 p) (segments_from (0 + length (text_of p)) parts) offset (omega arith))

  pub begun_held : AllByRecursion (IsIn lines) (p ∷ parts) → length lines < 2 ^ 64 → Held [] kept (segment_of 0 p) segments
  begun_held all small = record {
    one = inl refl;
    begins = refl;
    rising = subst (Rising 0) (sym segs) (rising_parts (length (text_of p)) parts 0 (omega arith));
    fits = λ offset low. omega (
      arith,
      same_offset offset,
      (built_held lines (p ∷ parts) text kept (segments_from 0 (p ∷ parts)) n is refl cut within all small).fits offset low,
    );
  }

  pub begun_seen : is_one_run (p ∷ parts) ≡ false
      → seen (length kept == 0) kept (segment_of 0 p) segments ≡ front n (joined (p ∷ parts))
  begun_seen broken =
      ap (λ ps. record { text = kept; offsets = ps; is_lent = length kept == 0 }) (range_same (offset_at (segment_of 0 p) segments)
      (offset_at (start 0) (segments_from 0 (p ∷ parts))) 0 (length kept) (λ i low high. same_offset i))
      ∙ built_seen lines (p ∷ parts) text kept (segments_from 0 (p ∷ parts)) n is refl cut within broken

-- what is lent, one run of the lines
pub lent_seen : (run : List ℕ) (from n : ℕ) (parts : List Part) → n ≤ length run → IsRunAt run from parts
    → seen true (take n run) (start from) [] ≡ front n (joined parts)
lent_seen run from n parts low h =
    let size = length-take-le n run low in
    let counts : n ≤ length (flat_map text_of parts) = omega (arith, low, ap length h.0) in
    let alone : (k : ℕ) → map (offset_at (start from) []) (range_with_len 0 k) ≡ range_with_len from k =
    λ k. range_same (offset_at (start from) []) (λ i. from + (i - 0)) 0 k (λ i a b.
    in_bytes 0 i (record { columns = 0; filler = space; offset = from; bytes = [] }) (omega arith)
    ∙ ap (λ m. from + m) (omega arith)) ∙ range_moved from 0 k in
    let given : List ℕ → ℕ → Bool → Placed =
    λ t m q. record { text = t; offsets = map (offset_at (start from) []) (range_with_len 0 m); is_lent = q } in
    ap (λ t. given t (length (take n run)) true) (ap (take n) (sym h.0))
    ∙ ap (λ m. given (take n (flat_map text_of parts)) m true) size
    ∙ ap (λ q. given (take n (flat_map text_of parts)) n (q || n == 0))
    (sym (is_run_decided from parts h.1))
    ∙ ap (λ ps. record { text = take n (flat_map text_of parts); offsets = ps; is_lent = is_one_run parts || n == 0 })
    (sym (take-map-range_with_len (offset_at (start from) []) 0 (length (flat_map text_of parts)) n counts)
    ∙ ap (take n) (alone (length (flat_map text_of parts)) ∙ sym (run_offsets from parts h.1)))
