-- Line endings as spaces, and the space that is left out at each end.
use Rattle.std.proofs.Common.{◌≡◌, ℕ, zero, suc, ◌+◌, ◌-◌, ◌≤◌, ◌<◌, Bool, true, false, not, ◌==◌, ◌&&◌, ◌||◌, List, []}
use Rattle.std.proofs.Common.{◌∷◌, ◌++◌, length, take, drop, get_or, nat_lt, refl, sym, ap, subst, ◌∙◌, arith, inl, inr}
use Rattle.std.proofs.Common.{one-add, append_assoc}
use Rattle.std.specs.Prelude.{slice_range}
use Rattle.std.specs.List.{list_all, list_any, prefix_len}
use Rattle.std.specs.Str.{IsUtf8, IsCharBoundary}
use Rattle.std.proofs.lemmas.Bool.{cases_Bool, cases_lt, eqb-true, le-ltb, lt-ltb, ltb-true}
use Rattle.std.proofs.lemmas.List.{length-append, length-take, length-drop, get_or-take, get_or-drop, nil_from_length, drop-drop}
use Rattle.std.proofs.lemmas.List.Folds.{length-prefix_len}
use Rattle.std.proofs.lemmas.Str.{IsCharBoundary-before_ascii, IsCharBoundary-after_ascii, IsCharBoundary-end}
use Rattle.std.proofs.Math.Seq.{drop-cons, take-append_seam}
use Rattle.markdown_scanners_tree.specs.Bytes.{begins_with, is_line_ending, line_head}
use Rattle.markdown_scanners_tree.proofs.PrefixLemmas.{both_true, from_offset, split_at}
use Rattle.markdown_inlines.specs.CodeContent.{as_space, with_spaces, is_padded, without_padding}

abbrev is_space : ℕ → Bool
is_space b = b == 32

abbrev becomes_space : ℕ → Bool
becomes_space b = as_space b == 32

-- CR, and LF at the front of what follows
abbrev is_pair : ℕ → List ℕ → Bool
is_pair b bs = b == 13 && begins_with (λ c. c == 10) bs

and_false : (a : Bool) → (a && false) ≡ false
and_false true = refl
and_false false = refl

either_false : (a b : Bool) → (a || b) ≡ false → (a ≡ false) × (b ≡ false)
either_false true b h = cc
either_false false b h = (refl, h)

pair_is : (b : ℕ) (bs : List ℕ) → is_pair b bs ≡ true → (b ≡ 13) × (bs ≡ 10 ∷ drop 1 bs)
pair_is b [] pair = (let none : false ≡ true = (both_true (b == 13) false pair).1 in cc)
pair_is b (c ∷ bs) pair =
    let both = both_true (b == 13) (c == 10) pair in
    (eqb-true b 13 both.0, ap (λ x. x ∷ bs) (eqb-true c 10 both.1))

-- a step over one byte
step_pair : (b : ℕ) (bs : List ℕ) → is_pair b bs ≡ true → with_spaces (b ∷ bs) ≡ with_spaces bs
step_pair b bs pair = rw pair refl

step_other : (b : ℕ) (bs : List ℕ) → is_pair b bs ≡ false → with_spaces (b ∷ bs) ≡ as_space b ∷ with_spaces bs
step_other b bs other = rw other refl

-- Where no line ends the text stays as it is,
pub with_spaces-plain : (bytes : List ℕ) → list_any is_line_ending bytes ≡ false → with_spaces bytes ≡ bytes
with_spaces-plain [] none = refl
with_spaces-plain (b ∷ bs) none =
    let both = either_false (is_line_ending b) (list_any is_line_ending bs) none in
    let bytes = either_false (b == 10) (b == 13) both.0 in
    step_other b bs (rw bytes.1 refl)
    ∙ ap (λ x. x ∷ with_spaces bs) (rw (bytes.0, bytes.1) refl)
    ∙ ap (λ t. b ∷ t) (with_spaces-plain bs both.1)

any-take : (p : ℕ → Bool) (n : ℕ) (bytes : List ℕ) → list_any p bytes ≡ false → list_any p (take n bytes) ≡ false
any-take p zero bytes none = refl
any-take p (suc n) [] none = refl
any-take p (suc n) (b ∷ bs) none =
    let both = either_false (p b) (list_any p bs) none in
    let first : p b ≡ false = both.0 in
    rw first (any-take p n bs both.1)

any-drop : (p : ℕ → Bool) (n : ℕ) (bytes : List ℕ) → list_any p bytes ≡ false → list_any p (drop n bytes) ≡ false
any-drop p zero bytes none = none
any-drop p (suc n) [] none = refl
any-drop p (suc n) (b ∷ bs) none = any-drop p n bs (either_false (p b) (list_any p bs) none).1

-- and so do parts of it.
pub slice-plain : (bytes : List ℕ) (start end : ℕ) → list_any is_line_ending bytes ≡ false
    → with_spaces (slice_range bytes start end) ≡ slice_range bytes start end
slice-plain bytes start end none =
    with_spaces-plain (slice_range bytes start end)
    (any-take is_line_ending (end - start) (drop start bytes) (any-drop is_line_ending start bytes none))

-- The head of a line stays,
pub head_kept : (bytes : List ℕ) → with_spaces bytes ≡ line_head bytes ++ with_spaces (drop (length (line_head bytes)) bytes)
head_kept [] = refl
head_kept (b ∷ bs) = elim (cases_Bool (b == 10)) [
  | inl feed ↦ rw (eqb-true b 10 feed) refl
  | inr no_lf ↦ elim (cases_Bool (b == 13)) [
    | inl return ↦ rw (eqb-true b 13 return) refl
    | inr no_cr ↦ rw (no_lf, no_cr, one-add) (ap (λ t. b ∷ t) (head_kept bs))
  ]
]

-- and a line ending follows it.
pub head_ends : (bytes : List ℕ) → length (line_head bytes) < length bytes
    → as_space (get_or bytes (length (line_head bytes)) 0) ≡ 32
head_ends [] inside = absurd (omega (arith, inside))
head_ends (b ∷ bs) inside = elim (cases_Bool (b == 10)) [
  | inl feed ↦ rw (eqb-true b 10 feed) refl
  | inr no_lf ↦ elim (cases_Bool (b == 13)) [
    | inl return ↦ rw (eqb-true b 13 return) refl
    | inr no_cr ↦ (let more = rw (no_lf, no_cr, one-add) at inside in rw (no_lf, no_cr, one-add) (head_ends bs (omega (arith, more))))
  ]
]

-- the same bytes by their offsets
pair_at : (bytes : List ℕ) → (get_or bytes 0 0 == 13 && get_or bytes 1 0 == 10) ≡ true
    → (2 ≤ length bytes) × (bytes ≡ 13 ∷ 10 ∷ drop 2 bytes)
pair_at [] pair = cc
pair_at (b ∷ []) pair = (let none : false ≡ true = (both_true (b == 13) false pair).1 in cc)
pair_at (b ∷ c ∷ bs) pair =
    let both = both_true (b == 13) (c == 10) pair in
    (omega arith, rw (eqb-true b 13 both.0, eqb-true c 10 both.1) refl)

no_pair_at : (b : ℕ) (bs : List ℕ) → (b == 13 && get_or (b ∷ bs) 1 0 == 10) ≡ false → is_pair b bs ≡ false
no_pair_at b [] other = and_false (b == 13)
no_pair_at b (c ∷ bs) other = other

-- The space at the front, from a line ending of two bytes or from one byte.
pub front_pair : (bytes : List ℕ) → (get_or bytes 0 0 == 13 && get_or bytes 1 0 == 10) ≡ true
    → with_spaces bytes ≡ 32 ∷ with_spaces (drop 2 bytes)
front_pair bytes pair = ap with_spaces (pair_at bytes pair).1

pub pair_within : (bytes : List ℕ) → (get_or bytes 0 0 == 13 && get_or bytes 1 0 == 10) ≡ true → 2 ≤ length bytes
pair_within bytes pair = (pair_at bytes pair).0

pub cut_pair : (bytes : List ℕ) → (get_or bytes 0 0 == 13 && get_or bytes 1 0 == 10) ≡ true → IsUtf8 bytes → IsCharBoundary bytes 2
cut_pair bytes pair utf8 =
    subst (IsCharBoundary bytes) (omega arith)
    (IsCharBoundary-after_ascii bytes 1 utf8 (omega (arith, (pair_at bytes pair).0))
    (omega (arith, ap (λ t. get_or t 1 0) (pair_at bytes pair).1)))

pub front_one : (bytes : List ℕ) → as_space (get_or bytes 0 0) ≡ 32
    → (get_or bytes 0 0 == 13 && get_or bytes 1 0 == 10) ≡ false → with_spaces bytes ≡ 32 ∷ with_spaces (drop 1 bytes)
front_one [] space other = absurd (omega (arith, space))
front_one (b ∷ bs) space other = step_other b bs (no_pair_at b bs other) ∙ ap (λ x. x ∷ with_spaces bs) space

pub some_space : (bytes : List ℕ) → as_space (get_or bytes 0 0) ≡ 32 → 1 ≤ length bytes
some_space [] space = absurd (omega (arith, space))
some_space (b ∷ bs) space = omega arith

-- what becomes a space is ASCII
space_low : (b : ℕ) → as_space b ≡ 32 → b < 128
space_low b space = elim (cases_Bool (b == 10)) [
  | inl feed ↦ omega (arith, eqb-true b 10 feed)
  | inr no_lf ↦ elim (cases_Bool (b == 13)) [
    | inl return ↦ omega (arith, eqb-true b 13 return)
    | inr no_cr ↦ (let is = rw (no_lf, no_cr) at space in omega (arith, is))
  ]
]

pub cut_one : (bytes : List ℕ) → as_space (get_or bytes 0 0) ≡ 32 → IsUtf8 bytes → IsCharBoundary bytes 1
cut_one bytes space utf8 =
    subst (IsCharBoundary bytes) (omega arith)
    (IsCharBoundary-after_ascii bytes 0 utf8 (omega (arith, some_space bytes space)) (space_low (get_or bytes 0 0) space))

-- how many bytes a step leaves
pub pair_len : (rest : List ℕ) → 0 < length rest → (get_or rest 0 0 == 13 && get_or rest 1 0 == 10) ≡ true
    → length (with_spaces rest) ≡ length (with_spaces (drop 1 rest))
pair_len rest some pair =
    ap (λ t. length (with_spaces t)) (pair_at rest pair).1
    ∙ sym (ap (λ t. length (with_spaces (drop 1 t))) (pair_at rest pair).1)

pub other_len : (rest : List ℕ) → 0 < length rest → (get_or rest 0 0 == 13 && get_or rest 1 0 == 10) ≡ false
    → length (with_spaces rest) ≡ length (with_spaces (drop 1 rest)) + 1
other_len [] some other = absurd (omega (arith, some))
other_len (b ∷ bs) some other = omega (arith, ap length (step_other b bs (no_pair_at b bs other)))

-- the last byte
last_byte : List ℕ → ℕ
last_byte [] = 0
last_byte (b ∷ []) = b
last_byte (b ∷ c ∷ bs) = last_byte (c ∷ bs)

last_at : (bytes : List ℕ) → get_or bytes (length bytes - 1) 0 ≡ last_byte bytes
unfolding last_byte
last_at [] = refl
last_at (b ∷ []) = refl
last_at (b ∷ c ∷ bs) =
    let less : length (b ∷ c ∷ bs) - 1 ≡ suc (length (c ∷ bs) - 1) = omega arith in
    ap (λ k. get_or (b ∷ c ∷ bs) k 0) less ∙ last_at (c ∷ bs)

last-cons : (x : ℕ) (xs : List ℕ) → 0 < length xs → last_byte (x ∷ xs) ≡ last_byte xs
unfolding last_byte
last-cons x [] some = absurd (omega (arith, some))
last-cons x (c ∷ cs) some = refl

some_spaced : (b : ℕ) (bs : List ℕ) → 0 < length (with_spaces (b ∷ bs))
some_spaced b [] = omega (arith, ap length (step_other b [] (and_false (b == 13))))
some_spaced b (c ∷ cs) = elim (cases_Bool (is_pair b (c ∷ cs))) [
  | inl pair ↦ omega (arith, ap length (step_pair b (c ∷ cs) pair), some_spaced c cs)
  | inr other ↦ omega (arith, ap length (step_other b (c ∷ cs) other))
]

-- The first byte, the last one and all of them become spaces where spaces stand in their place.
first_spaced : (bytes : List ℕ) → is_space (get_or (with_spaces bytes) 0 0) ≡ becomes_space (get_or bytes 0 0)
first_spaced [] = refl
first_spaced (b ∷ bs) = elim (cases_Bool (is_pair b bs)) [
  | inl pair ↦ (
      let is = pair_is b bs pair in
      ap (λ t. is_space (get_or t 0 0)) (step_pair b bs pair ∙ ap with_spaces is.1) ∙ sym (ap becomes_space is.0)
      )
  | inr other ↦ ap (λ t. is_space (get_or t 0 0)) (step_other b bs other)
]

last_spaced : (bytes : List ℕ) → is_space (last_byte (with_spaces bytes)) ≡ becomes_space (last_byte bytes)
unfolding last_byte
last_spaced [] = refl
last_spaced (b ∷ []) = ap (λ t. is_space (last_byte t)) (step_other b [] (and_false (b == 13)))
last_spaced (b ∷ c ∷ bs) = elim (cases_Bool (is_pair b (c ∷ bs))) [
  | inl pair ↦ ap (λ t. is_space (last_byte t)) (step_pair b (c ∷ bs) pair) ∙ last_spaced (c ∷ bs)
  | inr other ↦ ap (λ t. is_space (last_byte t)) (step_other b (c ∷ bs) other)
      ∙ ap is_space (last-cons (as_space b) (with_spaces (c ∷ bs)) (some_spaced c bs)) ∙ last_spaced (c ∷ bs)
]

all_spaced : (bytes : List ℕ) → list_all is_space (with_spaces bytes) ≡ list_all becomes_space bytes
all_spaced [] = refl
all_spaced (b ∷ bs) = elim (cases_Bool (is_pair b bs)) [
  | inl pair ↦ ap (list_all is_space) (step_pair b bs pair) ∙ all_spaced bs
      ∙ sym (ap (λ x. becomes_space x && list_all becomes_space bs) (pair_is b bs pair).0)
  | inr other ↦ ap (list_all is_space) (step_other b bs other) ∙ ap (λ t. becomes_space b && t) (all_spaced bs)
]

pub padded_bytes : (bytes : List ℕ) → is_padded (with_spaces bytes)
    ≡ (becomes_space (get_or bytes 0 0) && becomes_space (get_or bytes (length bytes - 1) 0) && not (list_all becomes_space bytes))
padded_bytes bytes =
    let last : is_space (get_or (with_spaces bytes) (length (with_spaces bytes) - 1) 0) ≡ becomes_space (get_or bytes (length bytes - 1) 0) =
    ap is_space (last_at (with_spaces bytes)) ∙ last_spaced bytes ∙ sym (ap becomes_space (last_at bytes)) in
    λ i. first_spaced bytes i && last i && not (all_spaced bytes i)

-- What is left out of padded bytes becomes spaces.
pub padded_front : (bytes : List ℕ) → is_padded (with_spaces bytes) ≡ true → as_space (get_or bytes 0 0) ≡ 32
padded_front bytes padded =
    eqb-true (as_space (get_or bytes 0 0)) 32
    (both_true _ _ (both_true _ _ (sym (padded_bytes bytes) ∙ padded)).0).0

last_padded : (rest : List ℕ) → is_padded (32 ∷ rest) ≡ true → is_space (last_byte rest) ≡ true
unfolding last_byte
last_padded [] padded = cc
last_padded (b ∷ bs) padded =
    let text = 32 ∷ b ∷ bs in
    let first = is_space (get_or text 0 0) in
    let last = is_space (get_or text (length text - 1) 0) in
    ap is_space (sym (last_at text)) ∙ (both_true first last (both_true (first && last) (not (list_all is_space text)) padded).0).1

pub padded_rest : (bytes rest : List ℕ) → with_spaces bytes ≡ 32 ∷ with_spaces rest → is_padded (with_spaces bytes) ≡ true
    → as_space (get_or rest (length rest - 1) 0) ≡ 32
padded_rest bytes rest front padded =
    let last : is_space (last_byte (with_spaces rest)) ≡ true = last_padded (with_spaces rest) (sym (ap is_padded front) ∙ padded) in
    eqb-true (as_space (get_or rest (length rest - 1) 0)) 32
    (ap becomes_space (last_at rest) ∙ sym (last_spaced rest) ∙ last)

pub padding_left_out : (text front : List ℕ) → text ≡ 32 ∷ (front ++ 32 ∷ []) → is_padded text ≡ true → front ≡ without_padding text
padding_left_out text front parts padded =
    let size : length text - 1 - 1 ≡ length front = omega (arith, ap length parts, length-append front (32 ∷ [])) in
    let inner : slice_range text 1 (length text - 1) ≡ front =
    ap (λ n. take n (drop 1 text)) size ∙ ap (λ t. take (length front) (drop 1 t)) parts ∙ take-append_seam front (32 ∷ []) in
    sym (rw padded inner)

pub padding_kept : (text : List ℕ) → is_padded text ≡ false → text ≡ without_padding text
padding_kept text other = rw other refl

-- Texts side by side, where no line ending stands across the seam.
spaced-append : (xs ys : List ℕ) → (last_byte xs == 13 && begins_with (λ c. c == 10) ys) ≡ false
    → with_spaces (xs ++ ys) ≡ with_spaces xs ++ with_spaces ys
unfolding last_byte
spaced-append [] ys apart = refl
spaced-append (b ∷ []) ys apart =
    step_other b ys apart ∙ sym (ap (λ t. t ++ with_spaces ys) (step_other b [] (and_false (b == 13))))
spaced-append (b ∷ c ∷ cs) ys apart = elim (cases_Bool (is_pair b (c ∷ cs))) [
  | inl pair ↦ step_pair b (c ∷ cs ++ ys) pair ∙ spaced-append (c ∷ cs) ys apart
      ∙ sym (ap (λ t. t ++ with_spaces ys) (step_pair b (c ∷ cs) pair))
  | inr other ↦ step_other b (c ∷ cs ++ ys) other ∙ ap (λ t. as_space b ∷ t) (spaced-append (c ∷ cs) ys apart)
      ∙ sym (ap (λ t. t ++ with_spaces ys) (step_other b (c ∷ cs) other))
]

-- CR LF stands at the end
abbrev pub ends_in_pair : List ℕ → Bool
ends_in_pair bytes =
    nat_lt 1 (length bytes) && get_or bytes (length bytes - 2) 0 == 13 && get_or bytes (length bytes - 1) 0 == 10

past_end : (bytes : List ℕ) (n : ℕ) → length bytes ≤ n → drop n bytes ≡ []
past_end bytes n past = nil_from_length (drop n bytes) (omega (arith, past, length-drop n bytes))

-- The space at the end, from a line ending of two bytes or from one byte.
pub back_pair : (bytes : List ℕ) → ends_in_pair bytes ≡ true
    → with_spaces bytes ≡ with_spaces (take (length bytes - 2) bytes) ++ 32 ∷ []
back_pair bytes pair =
    let both = both_true (nat_lt 1 (length bytes) && get_or bytes (length bytes - 2) 0 == 13) (get_or bytes (length bytes - 1) 0 == 10) pair in
    let first = both_true (nat_lt 1 (length bytes)) (get_or bytes (length bytes - 2) 0 == 13) both.0 in
    let long : 1 < length bytes = ltb-true 1 (length bytes) first.0 in
    let m = length bytes - 2 in
    let second : drop (suc m) bytes ≡ 10 ∷ [] =
    drop-cons bytes (suc m) 0 (omega (arith, long))
    ∙ ap (λ x. x ∷ drop (suc (suc m)) bytes) (ap (λ k. get_or bytes k 0) (omega (arith, long)) ∙ eqb-true (get_or bytes (length bytes - 1) 0) 10 both.1)
    ∙ ap (λ t. 10 ∷ t) (past_end bytes (suc (suc m)) (omega (arith, long))) in
    let parts : bytes ≡ take m bytes ++ 13 ∷ 10 ∷ [] =
    split_at bytes m 13 (omega (arith, long)) (eqb-true (get_or bytes m 0) 13 first.1) ∙ ap (λ t. take m bytes ++ 13 ∷ t) second in
    ap with_spaces parts ∙ spaced-append (take m bytes) (13 ∷ 10 ∷ []) (and_false (last_byte (take m bytes) == 13))

some_last : (bytes : List ℕ) → as_space (get_or bytes (length bytes - 1) 0) ≡ 32 → 1 ≤ length bytes
some_last [] space = absurd (omega (arith, space))
some_last (b ∷ bs) space = omega arith

-- no CR before LF at the end
seam_apart : (bytes : List ℕ) (n byte : ℕ) → n + 1 ≡ length bytes → get_or bytes n 0 ≡ byte → ends_in_pair bytes ≡ false
    → (last_byte (take n bytes) == 13 && byte == 10) ≡ false
unfolding last_byte
seam_apart bytes zero byte size here other = refl
seam_apart bytes (suc k) byte size here other =
    let counted : length (take (suc k) bytes) - 1 ≡ k = omega (arith, size, length-take (suc k) bytes) in
    let before : last_byte (take (suc k) bytes) ≡ get_or bytes (length bytes - 2) 0 =
    sym (last_at (take (suc k) bytes)) ∙ ap (λ j. get_or (take (suc k) bytes) j 0) counted
    ∙ get_or-take (suc k) bytes k 0 (omega arith) ∙ ap (λ j. get_or bytes j 0) (omega (arith, size)) in
    let last : byte ≡ get_or bytes (length bytes - 1) 0 = sym here ∙ ap (λ j. get_or bytes j 0) (omega (arith, size)) in
    let long : nat_lt 1 (length bytes) ≡ true = lt-ltb 1 (length bytes) (omega (arith, size)) in
    ap (λ x. x == 13 && byte == 10) before ∙ ap (λ x. get_or bytes (length bytes - 2) 0 == 13 && x == 10) last
    ∙ sym (ap (λ t. t && get_or bytes (length bytes - 2) 0 == 13 && get_or bytes (length bytes - 1) 0 == 10) long) ∙ other

pub back_one : (bytes : List ℕ) → as_space (get_or bytes (length bytes - 1) 0) ≡ 32 → ends_in_pair bytes ≡ false
    → with_spaces bytes ≡ with_spaces (take (length bytes - 1) bytes) ++ 32 ∷ []
back_one bytes space other =
    let some = some_last bytes space in
    let n = length bytes - 1 in
    let byte = get_or bytes n 0 in
    let parts : bytes ≡ take n bytes ++ byte ∷ [] =
    split_at bytes n byte (omega (arith, some)) refl ∙ ap (λ t. take n bytes ++ byte ∷ t) (past_end bytes (suc n) (omega (arith, some))) in
    ap with_spaces parts
    ∙ spaced-append (take n bytes) (byte ∷ []) (seam_apart bytes n byte (omega (arith, some)) refl other)
    ∙ ap (λ t. with_spaces (take n bytes) ++ t) (step_other byte [] (and_false (byte == 13)) ∙ ap (λ x. x ∷ []) space)

-- nothing is padded
pub none_padded : (bytes : List ℕ) → length bytes ≡ 0
    → false ≡ (becomes_space (get_or bytes 0 0) && becomes_space (get_or bytes (length bytes - 1) 0) && not (list_all becomes_space bytes))
none_padded [] empty = refl
none_padded (b ∷ bs) empty = absurd (omega (arith, empty))

-- what stands between the spaces that are left out
pub kept_between : (bytes : List ℕ) (start last : ℕ) → with_spaces bytes ≡ 32 ∷ with_spaces (drop start bytes)
    → with_spaces (take (length bytes - start) (drop start bytes))
    ≡ with_spaces (take (length (take (length bytes - start) (drop start bytes)) - last) (take (length bytes - start) (drop start bytes))) ++ 32 ∷ []
    → is_padded (with_spaces bytes) ≡ true
    → with_spaces (slice_range bytes start (length bytes - last)) ≡ without_padding (with_spaces bytes)
kept_between bytes start last front back padded =
    let rest = drop start bytes in
    let after : with_spaces rest ≡ with_spaces (take (length rest - last) rest) ++ 32 ∷ [] =
    subst (λ t. with_spaces t ≡ with_spaces (take (length t - last) t) ++ 32 ∷ []) (from_offset bytes start) back in
    let size : length bytes - last - start ≡ length rest - last = omega (arith, length-drop start bytes) in
    ap (λ n. with_spaces (take n rest)) size
    ∙ padding_left_out (with_spaces bytes) (with_spaces (take (length rest - last) rest)) (front ∙ ap (λ t. 32 ∷ t) after) padded

-- the length of a head that is found in the bytes of a text
pub head_size : (bytes text head : List ℕ) (offset : ℕ) → bytes ≡ text
    → head ≡ line_head (take (length bytes - offset) (drop offset bytes)) → length head ≡ length (line_head (drop offset text))
head_size bytes text head offset same is = ap length (is ∙ ap line_head (from_offset bytes offset ∙ ap (drop offset) same))

pub rest_of : (bytes text : List ℕ) (end : ℕ) → bytes ≡ text → take (length bytes - end) (drop end bytes) ≡ drop end text
rest_of bytes text end same = from_offset bytes end ∙ ap (drop end) same

-- The line from an offset on: where its head ends,
module _ (text : List ℕ) (offset head : ℕ) (within : offset ≤ length text) (size : head ≡ length (line_head (drop offset text))) where
  byte_after : offset + head < length text → as_space (get_or text (offset + head) 0) ≡ 32
  byte_after inside =
      let rest = drop offset text in
      ap (λ k. as_space (get_or text (offset + k) 0)) size ∙ sym (ap as_space (get_or-drop offset text (length (line_head rest)) 0))
      ∙ head_ends rest (omega (arith, inside, size, length-drop offset text))

  pub head_within : offset + head ≤ length text
  head_within =
      let rest = drop offset text in
      omega (arith, within, size, length-drop offset text, length-take (prefix_len (λ b. not (is_line_ending b)) rest) rest)

  pub head_cut : IsCharBoundary text (offset + head)
  head_cut = elim (cases_lt (offset + head) (length text)) [
    | inl inside ↦ IsCharBoundary-before_ascii text (offset + head) inside (space_low (get_or text (offset + head) 0) (byte_after inside))
    | inr past ↦ subst (IsCharBoundary text) (omega (arith, past, head_within)) (IsCharBoundary-end text)
  ]

  -- what follows it,
  pub ending_there : (rest : List ℕ) → rest ≡ drop (offset + head) text → 0 < length rest → as_space (get_or rest 0 0) ≡ 32
  ending_there rest is some =
      ap (λ t. as_space (get_or t 0 0)) is ∙ ap as_space (get_or-drop (offset + head) text 0 0)
      ∙ ap (λ k. as_space (get_or text k 0)) (omega arith)
      ∙ byte_after (omega (arith, some, ap length is, length-drop (offset + head) text))

  -- and what is appended of it.
  pub line_pushed : (n : ℕ) (rest before middle after : List ℕ) → rest ≡ drop (offset + head) text
      → middle ≡ before ++ take (offset + head - offset) (drop offset text)
      → after ++ with_spaces (drop n rest) ≡ middle ++ with_spaces rest
      → after ++ with_spaces (drop (offset + head + n) text) ≡ before ++ with_spaces (drop offset text)
  line_pushed n rest before middle after is first second =
      let line = drop offset text in
      let front : take (offset + head - offset) line ≡ line_head line =
      ap (λ k. take k line) (omega (arith, size)) ∙ ap (λ k. take k line) (length-prefix_len (λ b. not (is_line_ending b)) line) in
      let kept : line_head line ++ with_spaces rest ≡ with_spaces line =
      ap (λ t. line_head line ++ with_spaces t) (is ∙ sym (drop-drop head offset text) ∙ ap (λ k. drop k line) size) ∙ sym (head_kept line) in
      ap (λ t. after ++ with_spaces t) (sym (drop-drop n (offset + head) text) ∙ ap (drop n) (sym is))
      ∙ second ∙ ap (λ m. m ++ with_spaces rest) (first ∙ ap (λ t. before ++ t) front)
      ∙ append_assoc before (line_head line) (with_spaces rest)
      ∙ ap (λ t. before ++ t) kept

suc_lt : (a b : ℕ) → nat_lt (suc a) (suc b) ≡ nat_lt a b
suc_lt a b = elim (cases_lt a b) [
  | inl less ↦ lt-ltb (suc a) (suc b) (omega (arith, less)) ∙ sym (lt-ltb a b less)
  | inr not_less ↦ le-ltb (suc a) (suc b) (omega (arith, not_less)) ∙ sym (le-ltb a b not_less)
]

-- some byte passes a test where those at the front that don't are not all
pub some_stops : (p : ℕ → Bool) (xs : List ℕ) → nat_lt (prefix_len (λ b. not (p b)) xs) (length xs) ≡ list_any p xs
some_stops p [] = refl
some_stops p (x ∷ xs) = elim (cases_Bool (p x)) [
  | inl passes ↦ rw passes (lt-ltb 0 (suc (length xs)) (omega arith))
  | inr fails ↦ rw (fails, one-add) (suc_lt (prefix_len (λ b. not (p b)) xs) (length xs) ∙ some_stops p xs)
]
