-- Parts that are one run of the lines.
use Rattle.std.proofs.lemmas.Bool.{eq-eqb, eqb-true}
use Rattle.std.specs.Prelude.{Bool, true, false, ◌&&◌, ◌==◌}
use Rattle.markdown_scanners_tree.proofs.PrefixLemmas.{both_true}
use Rattle.std.proofs.Common.{ℕ, zero, suc, ◌+◌, ◌-◌, ◌≤◌, ◌≡◌, List, [], ◌∷◌, ◌++◌, length, take, drop, replicate}
use Rattle.std.proofs.Common.{refl, sym, ap, ◌∙◌, subst, arith, append_assoc, length-append}
use Rattle.std.specs.List.{flat_map, range_with_len}
use Rattle.std.proofs.Math.Seq.{take-add, take-append_seam}
use Rattle.std.proofs.lemmas.List.{drop-drop, length-drop, length-take-le, take-append-drop}
use Rattle.markdown_scanners_tree.specs.Ascii.{space}
use Rattle.markdown_blocks.specs.content.Content.{joined, offsets_of, text_of}
use Rattle.markdown_blocks.specs.content.Parts.{AreOneRun, GoOn, Part, goes_on, is_one_run}
use Rattle.markdown_blocks.specs.content.Seen.{IsIn}

-- the bytes from one offset up to another, and those that follow
pub run_more : (lines bytes : List ℕ) (begin end : ℕ) → begin ≤ end → drop end lines ≡ bytes ++ drop (end + length bytes) lines
    → take (end - begin) (drop begin lines) ++ bytes ≡ take (end + length bytes - begin) (drop begin lines)
run_more lines bytes begin end low stands =
    let size : end + length bytes - begin ≡ (end - begin) + length bytes = omega arith in
    let at : begin + (end - begin) ≡ end = omega arith in
    let next : take (length bytes) (drop (end - begin) (drop begin lines)) ≡ bytes =
    ap (take (length bytes)) (drop-drop (end - begin) begin lines ∙ ap (λ n. drop n lines) at ∙ stands)
    ∙ take-append_seam bytes (drop (end + length bytes) lines) in
    sym (ap (λ n. take n (drop begin lines)) size ∙ take-add (end - begin) (length bytes) (drop begin lines)
    ∙ ap (λ b. take (end - begin) (drop begin lines) ++ b) next)

-- a part without columns
pub plain_part : (p : Part) → p.columns ≡ 0 → text_of p ≡ p.bytes
plain_part p none = ap (λ n. replicate n p.filler ++ p.bytes) none

pub range_on : (k m n : ℕ) → range_with_len k m ++ range_with_len (k + m) n ≡ range_with_len k (m + n)
range_on k zero n =
    let at : k + 0 ≡ k = omega arith in
    let count : n ≡ 0 + n = omega arith in
    ap (λ a. range_with_len a n) at ∙ ap (range_with_len k) count
range_on k (suc m) n =
    let counts : suc m + n ≡ suc (m + n) = omega arith in
    ap (λ xs. k ∷ xs) (ap (λ a. range_with_len (k + 1) m ++ range_with_len a n) (omega arith) ∙ range_on (k + 1) m n)
    ∙ sym (ap (range_with_len k) counts)

-- the offsets of parts that go on from an offset
pub run_offsets : (from : ℕ) (parts : List Part) → GoOn from parts → flat_map offsets_of parts ≡ range_with_len from (length (flat_map text_of parts))
run_offsets from [] on = refl
run_offsets from (p ∷ parts) on =
    let plain = plain_part p on.0 in
    let size : length (text_of p ++ flat_map text_of parts) ≡ length p.bytes + length (flat_map text_of parts) =
    length-append (text_of p) (flat_map text_of parts) ∙ ap (λ t. length t + length (flat_map text_of parts)) plain in
    ap (λ n. (replicate n (p.offset - 1) ++ range_with_len p.offset (length p.bytes)) ++ flat_map offsets_of parts) on.0
    ∙ ap (λ a. range_with_len a (length p.bytes) ++ flat_map offsets_of parts) on.1
    ∙ ap (λ xs. range_with_len from (length p.bytes) ++ xs) (run_offsets (from + length p.bytes) parts on.2)
    ∙ range_on from (length p.bytes) (length (flat_map text_of parts))
    ∙ ap (range_with_len from) (sym size)

-- the first part of a run, and a part more
pub run_first : (lines : List ℕ) (all rest : List Part) (p : Part) → p.columns ≡ 0 → IsIn lines p → all ≡ p ∷ rest
    → flat_map text_of all ≡ take (p.offset + length p.bytes - p.offset) (drop p.offset lines) ++ flat_map text_of rest
run_first lines all rest p none inside is =
    let size : p.offset + length p.bytes - p.offset ≡ length p.bytes = omega arith in
    ap (flat_map text_of) is ∙ ap (λ t. t ++ flat_map text_of rest) (plain_part p none
    ∙ sym (ap (λ n. take n (drop p.offset lines)) size ∙ ap (take (length p.bytes)) inside.1
    ∙ take-append_seam p.bytes (drop (p.offset + length p.bytes) lines)))

pub run_next : (lines : List ℕ) (all left rest : List Part) (p : Part) (begin end : ℕ) → p.columns ≡ 0 → p.offset ≡ end → IsIn lines p → begin ≤ end
    → left ≡ p ∷ rest → flat_map text_of all ≡ take (end - begin) (drop begin lines) ++ flat_map text_of left
    → flat_map text_of all ≡ take (end + length p.bytes - begin) (drop begin lines) ++ flat_map text_of rest
run_next lines all left rest p begin end none at inside low is so_far =
    let stands : drop end lines ≡ p.bytes ++ drop (end + length p.bytes) lines =
    subst (λ n. drop n lines ≡ p.bytes ++ drop (n + length p.bytes) lines) at inside.1 in
    so_far ∙ ap (λ ps. take (end - begin) (drop begin lines) ++ flat_map text_of ps) is
    ∙ ap (λ t. take (end - begin) (drop begin lines) ++ (t ++ flat_map text_of rest)) (plain_part p none)
    ∙ sym (append_assoc (take (end - begin) (drop begin lines)) p.bytes (flat_map text_of rest))
    ∙ ap (λ t. t ++ flat_map text_of rest) (run_more lines p.bytes begin end low stands)

pub go_first : (all rest : List Part) (p : Part) → p.columns ≡ 0 → all ≡ p ∷ rest
    → (GoOn (p.offset + length p.bytes) rest → GoOn p.offset all) × (GoOn p.offset all → GoOn (p.offset + length p.bytes) rest)
go_first all rest p none is = (
  λ on. subst (GoOn p.offset) (sym is) (none, refl, on),
  λ on. (subst (GoOn p.offset) is on).2,
)

pub go_next : (left rest : List Part) (p : Part) (end : ℕ) → p.columns ≡ 0 → p.offset ≡ end → left ≡ p ∷ rest
    → (GoOn (end + length p.bytes) rest → GoOn end left) × (GoOn end left → GoOn (end + length p.bytes) rest)
go_next left rest p end none at is = (
  λ on. subst (GoOn end) (sym is) (none, at, on),
  λ on. (subst (GoOn end) is on).2,
)

-- a part that is cut, or stands elsewhere, ends the run
pub not_cut : (end : ℕ) (left rest : List Part) (p : Part) → left ≡ p ∷ rest → GoOn end left → (p.columns ≡ 0) × (p.offset ≡ end)
not_cut end left rest p is on = let here = subst (GoOn end) is on in (here.0, here.1)

-- the offsets of a part without columns, of the first part of a run, and of a part more
plain_offsets : (p : Part) → p.columns ≡ 0 → offsets_of p ≡ range_with_len p.offset (length p.bytes)
plain_offsets p none = ap (λ n. replicate n (p.offset - 1) ++ range_with_len p.offset (length p.bytes)) none

pub offsets_first : (all rest : List Part) (p : Part) → p.columns ≡ 0 → all ≡ p ∷ rest
    → flat_map offsets_of all ≡ range_with_len p.offset (p.offset + length p.bytes - p.offset) ++ flat_map offsets_of rest
offsets_first all rest p none is =
    let size : length p.bytes ≡ p.offset + length p.bytes - p.offset = omega arith in
    ap (flat_map offsets_of) is
    ∙ ap (λ ns. ns ++ flat_map offsets_of rest) (plain_offsets p none ∙ ap (range_with_len p.offset) size)

pub offsets_next : (all left rest : List Part) (p : Part) (begin end : ℕ) → p.columns ≡ 0 → p.offset ≡ end → begin ≤ end → left ≡ p ∷ rest
    → flat_map offsets_of all ≡ range_with_len begin (end - begin) ++ flat_map offsets_of left
    → flat_map offsets_of all ≡ range_with_len begin (end + length p.bytes - begin) ++ flat_map offsets_of rest
offsets_next all left rest p begin end none at low is so_far =
    let front = range_with_len begin (end - begin) in
    let offset : p.offset ≡ begin + (end - begin) = omega (arith, at, low) in
    let size : end - begin + length p.bytes ≡ end + length p.bytes - begin = omega (arith, low) in
    so_far ∙ ap (λ ps. front ++ flat_map offsets_of ps) is
    ∙ ap (λ ns. front ++ (ns ++ flat_map offsets_of rest)) (plain_offsets p none ∙ ap (λ n. range_with_len n (length p.bytes)) offset)
    ∙ sym (append_assoc front (range_with_len (begin + (end - begin)) (length p.bytes)) (flat_map offsets_of rest))
    ∙ ap (λ ns. ns ++ flat_map offsets_of rest) (range_on begin (end - begin) (length p.bytes) ∙ ap (range_with_len begin) size)

-- whether parts are one run is decided
pub on_decided : (from : ℕ) (parts : List Part) → GoOn from parts → goes_on from parts ≡ true
on_decided from [] on = refl
on_decided from (p ∷ parts) on =
    rw (eq-eqb p.columns 0 on.0, eq-eqb p.offset from on.1) (on_decided (from + length p.bytes) parts on.2)

decided_on : (from : ℕ) (parts : List Part) → goes_on from parts ≡ true → GoOn from parts
decided_on from [] is = tt
decided_on from (p ∷ parts) is =
    let here = both_true (p.columns == 0) ((p.offset == from) && goes_on (from + length p.bytes) parts) is in
    let next = both_true (p.offset == from) (goes_on (from + length p.bytes) parts) here.1 in
    (eqb-true p.columns 0 here.0, eqb-true p.offset from next.0, decided_on (from + length p.bytes) parts next.1)

pub is_run_decided : (from : ℕ) (parts : List Part) → GoOn from parts → is_one_run parts ≡ true
is_run_decided from [] on = refl
is_run_decided from (p ∷ parts) on = ap (λ n. goes_on n (p ∷ parts)) on.1 ∙ on_decided from (p ∷ parts) on

pub no_one_run : (parts : List Part) → ¬ AreOneRun parts → is_one_run parts ≡ false
no_one_run [] broken = absurd (broken (0, tt))
no_one_run (p ∷ parts) broken = by_case (goes_on p.offset (p ∷ parts)) refl
  where
    by_case : (q : Bool) → goes_on p.offset (p ∷ parts) ≡ q → q ≡ false
    by_case true is = absurd (broken (p.offset, decided_on p.offset (p ∷ parts) is))
    by_case false is = refl

-- a run as one part
abbrev pub run_part : List ℕ → ℕ → ℕ → Part
run_part lines begin end = record { columns = 0; filler = space; offset = begin; bytes = take (end - begin) (drop begin lines) }

run_size : (lines : List ℕ) (begin end : ℕ) → begin ≤ end → end ≤ length lines → length (take (end - begin) (drop begin lines)) ≡ end - begin
run_size lines begin end low within =
    length-take-le (end - begin) (drop begin lines) (omega (arith, low, within, length-drop begin lines))

pub run_inside : (lines : List ℕ) (begin end : ℕ) → begin ≤ end → end ≤ length lines → IsIn lines (run_part lines begin end)
run_inside lines begin end low within =
    let size = run_size lines begin end low within in
    let after : begin + (end - begin) ≡ begin + length (take (end - begin) (drop begin lines)) = omega (arith, size) in (
      omega (arith, size, low, within),
      sym (ap (λ bs. take (end - begin) (drop begin lines) ++ bs)
          (sym (drop-drop (end - begin) begin lines ∙ ap (λ n. drop n lines) after))
          ∙ take-append-drop (end - begin) (drop begin lines)),
    )

-- it stands for the parts that it joins
pub run_joined : (lines : List ℕ) (all left : List Part) (begin end : ℕ) → begin ≤ end → end ≤ length lines
    → flat_map text_of all ≡ take (end - begin) (drop begin lines) ++ flat_map text_of left
    → flat_map offsets_of all ≡ range_with_len begin (end - begin) ++ flat_map offsets_of left
    → (GoOn end left → GoOn begin all) → ¬ AreOneRun all
    → joined (run_part lines begin end ∷ left) ≡ joined all
run_joined lines all left begin end low within text offsets on broken =
    let size = run_size lines begin end low within in
    let after : begin + length (take (end - begin) (drop begin lines)) ≡ end = omega (arith, size, low) in
    let still : is_one_run (run_part lines begin end ∷ left) ≡ false =
    no_one_run (run_part lines begin end ∷ left) (λ one. broken (
      begin,
      on (subst (λ n. GoOn n left)
          (ap (λ n. n + length (take (end - begin) (drop begin lines))) (sym one.1.1) ∙ after) one.1.2),
    )) in
    sym (ap (λ t. record { text = t; offsets = flat_map offsets_of all; is_lent = is_one_run all }) text
    ∙ ap (λ ns. record { text = take (end - begin) (drop begin lines) ++ flat_map text_of left; offsets = ns; is_lent = is_one_run all })
    (offsets ∙ ap (λ n. range_with_len begin n ++ flat_map offsets_of left) (sym size))
    ∙ ap (λ q. record {
      text = take (end - begin) (drop begin lines) ++ flat_map text_of left;
      offsets = flat_map offsets_of (run_part lines begin end ∷ left);
      is_lent = q;
    }) (no_one_run all broken ∙ sym still))
