-- The longest prefix that a test accepts, and the parts that it cuts a list of bytes into.
use Rattle.std.proofs.Common.{◌≡◌, ℕ, zero, suc, min, ◌+◌, ◌-◌, ◌<◌, ◌≤◌, Bool, true, false, ◌&&◌}
use Rattle.std.proofs.Common.{cond, List, [], ◌∷◌, ◌++◌, length, take, drop, get_or, refl, sym, ap, ◌∙◌, arith, inl, inr, one-add}
use Rattle.std.specs.List.{prefix_len, list_all}
use Rattle.std.proofs.lemmas.Bool.{cases_Bool}
use Rattle.std.proofs.lemmas.List.{take_all, length-drop, take-append-drop}
use Rattle.std.proofs.Math.Seq.{drop-cons, drop-append_seam, take-append_seam}
use Rattle.markdown_scanners_tree.specs.Bytes.{begins_with}

pub both_true : (a b : Bool) → (a && b) ≡ true → (a ≡ true) × (b ≡ true)
both_true true b h = (refl, h)
both_true false b h = cc

pub list_all-prefix : (p : ℕ → Bool) (xs : List ℕ) → list_all p (take (prefix_len p xs) xs) ≡ true
list_all-prefix p [] = refl
list_all-prefix p (x ∷ xs) = elim (cases_Bool (p x)) [
  | inl passes ↦ rw (passes, one-add, passes) (list_all-prefix p xs)
  | inr fails ↦ rw fails
]

pub begins_with-after_prefix : (p : ℕ → Bool) (xs : List ℕ) → begins_with p (drop (prefix_len p xs) xs) ≡ false
begins_with-after_prefix p [] = refl
begins_with-after_prefix p (x ∷ xs) = elim (cases_Bool (p x)) [
  | inl passes ↦ rw (passes, one-add) (begins_with-after_prefix p xs)
  | inr fails ↦ rw (fails, fails)
]

-- a prefix that passes, before a rest that does not begin with what passes, is the longest
pub prefix_len-parts : (p : ℕ → Bool) (prefix rest : List ℕ) → list_all p prefix ≡ true → begins_with p rest ≡ false
    → prefix_len p (prefix ++ rest) ≡ length prefix
prefix_len-parts p [] [] all stop = refl
prefix_len-parts p [] (x ∷ rest) all stop = rw stop
prefix_len-parts p (x ∷ prefix) rest all stop =
    let both = both_true (p x) (list_all p prefix) all in
    let passes : p x ≡ true = both.0 in
    rw passes (rw (prefix_len-parts p prefix rest both.1 stop, one-add))

-- Two cuts of a list at the end of the longest prefix that a test accepts are one.
pub same_cut : (p : ℕ → Bool) (prefix rest prefix' rest' : List ℕ) → list_all p prefix ≡ true
    → begins_with p rest ≡ false → list_all p prefix' ≡ true → begins_with p rest' ≡ false
    → prefix ++ rest ≡ prefix' ++ rest' → (prefix ≡ prefix') × (rest ≡ rest')
same_cut p prefix rest prefix' rest' all stop all' stop' whole =
    let counted =
    sym (prefix_len-parts p prefix rest all stop) ∙ ap (prefix_len p) whole
    ∙ prefix_len-parts p prefix' rest' all' stop' in (
      sym (take-append_seam prefix rest) ∙ ap (take (length prefix)) whole
          ∙ ap (λ n. take n (prefix' ++ rest')) counted ∙ take-append_seam prefix' rest',
      sym (drop-append_seam prefix rest) ∙ ap (drop (length prefix)) whole
          ∙ ap (λ n. drop n (prefix' ++ rest')) counted ∙ drop-append_seam prefix' rest',
    )

-- the tests agree on the bytes
pub prefix_alike : (p q : ℕ → Bool) (xs ys : List ℕ) → length xs ≡ length ys
    → ((k : ℕ) → k < length ys → p (get_or xs k 0) ≡ q (get_or ys k 0)) → prefix_len p xs ≡ prefix_len q ys
prefix_alike p q [] [] long each = refl
prefix_alike p q [] (y ∷ ys) long each = absurd (omega (arith, long))
prefix_alike p q (x ∷ xs) [] long each = absurd (omega (arith, long))
prefix_alike p q (x ∷ xs) (y ∷ ys) long each =
    let rest : prefix_len p xs ≡ prefix_len q ys =
    prefix_alike p q xs ys (omega (arith, long)) (λ k less. each (suc k) (omega (arith, less))) in
    ap (λ t. cond t (1 + prefix_len p xs) 0) (each 0 (omega arith)) ∙ ap (λ n. cond (q y) (1 + n) 0) rest

-- `&bytes[i..]`
pub from_offset : (bytes : List ℕ) (i : ℕ) → take (length bytes - i) (drop i bytes) ≡ drop i bytes
from_offset bytes i = take_all (length bytes - i) (drop i bytes) (omega (arith, length-drop i bytes))

module _ (p q : ℕ → Bool) (implies : (b : ℕ) → p b ≡ true → q b ≡ true) where
  pub list_all-implies : (bytes : List ℕ) → list_all p bytes ≡ true → list_all q bytes ≡ true
  list_all-implies [] all = refl
  list_all-implies (b ∷ bytes) all =
      let both = both_true (p b) (list_all p bytes) all in
      let first : q b ≡ true = implies b both.0 in
      rw first (list_all-implies bytes both.1)

  pub begins_with-implies : (bytes : List ℕ) → begins_with q bytes ≡ false → begins_with p bytes ≡ false
  begins_with-implies [] stop = refl
  begins_with-implies (b ∷ bytes) stop = elim (cases_Bool (p b)) [
    | inl passes ↦ absurd (let q_passes = implies b passes in cc)
    | inr fails ↦ fails
  ]

pub list_all-drop : (p : ℕ → Bool) (k : ℕ) (bytes : List ℕ) → list_all p bytes ≡ true
    → list_all p (drop k bytes) ≡ true
list_all-drop p zero bytes all = all
list_all-drop p (suc k) [] all = refl
list_all-drop p (suc k) (b ∷ bytes) all = list_all-drop p k bytes (both_true (p b) (list_all p bytes) all).1

-- the bytes before an offset, the byte there, and those after it
pub split_at : (bytes : List ℕ) (n byte : ℕ) → n < length bytes → get_or bytes n 0 ≡ byte
    → bytes ≡ take n bytes ++ byte ∷ drop (suc n) bytes
split_at bytes n byte inside here =
    sym (ap (λ r. take n bytes ++ r) (sym (drop-cons bytes n 0 inside ∙ ap (λ b. b ∷ drop (suc n) bytes) here))
    ∙ take-append-drop n bytes)

-- the longest prefix of the first bytes alone
pub prefix_len-first : (p : ℕ → Bool) (n : ℕ) (bytes : List ℕ) → prefix_len p (take n bytes) ≡ min n (prefix_len p bytes)
prefix_len-first p zero bytes = omega arith
prefix_len-first p (suc n) [] = omega arith
prefix_len-first p (suc n) (b ∷ bytes) =
    let rest = prefix_len-first p n bytes in
    elim (cases_Bool (p b)) [ inl passes ↦ rw passes (omega (arith, rest)) | inr fails ↦ rw fails (omega arith) ]

-- Of a prefix that may have at most `limit` bytes, the first `limit + 1` bytes tell whether it is the longest one.
module _ (p : ℕ → Bool) (bytes front : List ℕ) (n limit : ℕ) (first : front ≡ take (limit + 1) bytes)
    (run : n ≡ prefix_len p front) where
  pub counted_up_to : n ≡ min (limit + 1) (prefix_len p bytes)
  counted_up_to = run ∙ ap (prefix_len p) first ∙ prefix_len-first p (limit + 1) bytes

  pub is_longest : n ≤ limit → n ≡ prefix_len p bytes
  is_longest few = omega (arith, counted_up_to, few)
