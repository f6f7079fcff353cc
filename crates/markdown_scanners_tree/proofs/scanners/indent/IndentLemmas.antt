-- Prefixes of spaces and tabs, and the one indent that a text has.
use Rattle.std.proofs.Common.{◌≡◌, ℕ, zero, suc, ◌+◌, ◌<◌, ◌≤◌, true, false, not, ◌==◌, List, [], ◌∷◌, ◌++◌, length, take, drop, get_or, refl, sym, ap, ◌∙◌, arith, add-one, if◌then◌else◌}
use Rattle.std.proofs.lemmas.Bool.{eq-eqb, le-leb, lt-leb, ne_eqb}
use Rattle.std.proofs.lemmas.List.{take-append-drop, length-take-le}
use Rattle.std.proofs.Math.Seq.{drop-cons}
use Rattle.markdown_scanners_tree.specs.Bytes.{ends_or_begins_with}
use Rattle.markdown_scanners_tree.specs.Columns.{column_after, column_past, next_tab_stop}
use Rattle.markdown_scanners_tree.specs.scanners.Indent.{goes_on, all_go_on, IsIndent}
use Rattle.markdown_scanners_tree.proofs.PrefixLemmas.{both_true}
use Rattle.markdown_scanners_tree.proofs.RunLemmas.{not_true, not_false}

-- a prefix that is longer by one byte
past-suc : (c : ℕ) (bytes : List ℕ) (i : ℕ) → i < length bytes
    → column_past c (take (suc i) bytes) ≡ column_after (column_past c (take i bytes)) (get_or bytes i 0)
past-suc c [] i lt = absurd (omega (arith, lt))
past-suc c (b ∷ bytes) zero lt = refl
past-suc c (b ∷ bytes) (suc i) lt = past-suc (column_after c b) bytes i (omega (arith, lt))

pub column_past-more : (bytes : List ℕ) (i : ℕ) → i < length bytes
    → column_past 0 (take (i + 1) bytes) ≡ column_after (column_past 0 (take i bytes)) (get_or bytes i 0)
column_past-more bytes i lt = ap (λ n. column_past 0 (take n bytes)) (add-one i) ∙ past-suc 0 bytes i lt

all-suc : (limit c : ℕ) (bytes : List ℕ) (i : ℕ) → i < length bytes → all_go_on limit c (take i bytes) ≡ true
    → goes_on limit (column_past c (take i bytes)) (get_or bytes i 0) ≡ true
    → all_go_on limit c (take (suc i) bytes) ≡ true
all-suc limit c [] i lt all here = absurd (omega (arith, lt))
all-suc limit c (b ∷ bytes) zero lt all here = rw here refl
all-suc limit c (b ∷ bytes) (suc i) lt all here =
    let both = both_true (goes_on limit c b) (all_go_on limit (column_after c b) (take i bytes)) all in
    rw both.0 (all-suc limit (column_after c b) bytes i (omega (arith, lt)) both.1 here)

pub all_go_on-more : (limit : ℕ) (bytes : List ℕ) (i : ℕ) → i < length bytes → all_go_on limit 0 (take i bytes) ≡ true
    → goes_on limit (column_past 0 (take i bytes)) (get_or bytes i 0) ≡ true
    → all_go_on limit 0 (take (i + 1) bytes) ≡ true
all_go_on-more limit bytes i lt all here =
    ap (λ n. all_go_on limit 0 (take n bytes)) (add-one i) ∙ all-suc limit 0 bytes i lt all here

-- the prefix that goes on, up to what stops it, is the only one
prefix-unique : (limit c : ℕ) (prefix rest prefix' rest' : List ℕ) → prefix ++ rest ≡ prefix' ++ rest'
    → all_go_on limit c prefix ≡ true
    → ends_or_begins_with (λ b. not (goes_on limit (column_past c prefix) b)) rest ≡ true
    → all_go_on limit c prefix' ≡ true
    → ends_or_begins_with (λ b. not (goes_on limit (column_past c prefix') b)) rest' ≡ true
    → (prefix ≡ prefix') × (rest ≡ rest')
prefix-unique limit c [] rest [] rest' same all stop all' stop' = (refl, same)
prefix-unique limit c [] [] (b ∷ prefix') rest' same all stop all' stop' = cc
prefix-unique limit c [] (x ∷ rest) (b ∷ prefix') rest' same all stop all' stop' =
    let goes : goes_on limit c b ≡ true =
    (both_true (goes_on limit c b) (all_go_on limit (column_after c b) prefix') all').0 in
    let stops : goes_on limit c x ≡ false = not_true _ stop in
    let first : x ≡ b = cc in
    let moved : goes_on limit c x ≡ true = ap (goes_on limit c) first ∙ goes in
    cc
prefix-unique limit c (b ∷ prefix) rest [] [] same all stop all' stop' = cc
prefix-unique limit c (b ∷ prefix) rest [] (x ∷ rest') same all stop all' stop' =
    let goes : goes_on limit c b ≡ true =
    (both_true (goes_on limit c b) (all_go_on limit (column_after c b) prefix) all).0 in
    let stops : goes_on limit c x ≡ false = not_true _ stop' in
    let first : x ≡ b = cc in
    let moved : goes_on limit c x ≡ true = ap (goes_on limit c) first ∙ goes in
    cc
prefix-unique limit c (b ∷ prefix) rest (b' ∷ prefix') rest' same all stop all' stop' =
    let first : b ≡ b' = cc in
    let later : prefix ++ rest ≡ prefix' ++ rest' = cc in
    let both = both_true (goes_on limit c b) (all_go_on limit (column_after c b) prefix) all in
    let both' = both_true (goes_on limit c b') (all_go_on limit (column_after c b') prefix') all' in
    let next : column_after c b' ≡ column_after c b = ap (column_after c) (sym first) in
    let tails = prefix-unique limit (column_after c b) prefix rest prefix' rest' later both.1 stop
    (rw next at both'.1) (rw next at stop') in
    let prefixes : prefix ≡ prefix' = tails.0 in
    (cc, tails.1)

-- the indent of a text: the last offset that was looked at, and the columns
pub one_indent : (text : List ℕ) (limit : ℕ) (indent other : ℕ × ℕ) → IsIndent text limit indent.0 indent.1
    → IsIndent text limit other.0 other.1 → indent ≡ other
one_indent text limit indent other is is' =
    let same = prefix-unique limit 0 is.prefix is.rest is'.prefix is'.rest (sym is.parts ∙ is'.parts) is.passed
    is.stopped is'.passed is'.stopped in
    let offset : indent.0 ≡ other.0 = is.last_offset ∙ rw (same.0, same.1) (sym is'.last_offset) in
    let total : indent.1 ≡ other.1 = is.counted ∙ rw (same.0, same.1) (sym is'.counted) in
    λ i. (offset i, total i)

-- which bytes go on
pub space_goes : (limit column : ℕ) → ¬ (column + 1 ≡ limit) → goes_on limit column 32 ≡ true
space_goes limit column below = rw (ne_eqb (column + 1) limit below) refl

pub space_stops : (limit column : ℕ) → column + 1 ≡ limit → goes_on limit column 32 ≡ false
space_stops limit column full = rw (eq-eqb (column + 1) limit full) refl

pub tab_goes : (limit column : ℕ) → next_tab_stop column ≤ limit → goes_on limit column 9 ≡ true
tab_goes limit column within = le-leb (next_tab_stop column) limit within

pub tab_stops : (limit column : ℕ) → limit < next_tab_stop column → goes_on limit column 9 ≡ false
tab_stops limit column past = lt-leb (next_tab_stop column) limit past

pub other_stops : (limit column b : ℕ) → ¬ (b ≡ 32) → ¬ (b ≡ 9) → goes_on limit column b ≡ false
other_stops limit column b no_space no_tab = rw (ne_eqb b 32 no_space, ne_eqb b 9 no_tab) refl

-- a byte that does not go on ends the indent
module _ (text : List ℕ) (limit i column : ℕ) (inside : i < length text)
    (is_column : column ≡ column_past 0 (take i text)) (all : all_go_on limit 0 (take i text) ≡ true)
    (stops : goes_on limit column (get_or text i 0) ≡ false) where
  stopped_at : (total : ℕ) → total ≡ column + (if get_or text i 0 == 32 then 1 else 0) → IsIndent text limit i total
  stopped_at total counted =
      let next : drop i text ≡ get_or text i 0 ∷ drop (suc i) text = drop-cons text i 0 inside in
      let long : length (take i text) ≡ i = length-take-le i text (omega (arith, inside)) in
      record {
        prefix = take i text;
        rest = drop i text;
        parts = sym (take-append-drop i text);
        passed = all;
        stopped = rw next (rw (← is_column) (not_false _ stops));
        last_offset = rw next (sym long);
        counted = counted ∙ ap (λ k. k + (if get_or text i 0 == 32 then 1 else 0)) is_column ∙ rw next refl;
      }

  pub stopped-space : get_or text i 0 ≡ 32 → IsIndent text limit i (column + 1)
  stopped-space is_space = stopped_at (column + 1) (rw is_space refl)

  pub stopped-other : ¬ (get_or text i 0 ≡ 32) → IsIndent text limit i column
  stopped-other no_space = stopped_at column
      (let other : (get_or text i 0 == 32) ≡ false = ne_eqb (get_or text i 0) 32 no_space in rw other (omega arith))
