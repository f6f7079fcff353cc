-- Runs of one byte, and prefixes before a line ending.
use Rattle.std.proofs.Common.{◌≡◌, ℕ, ◌+◌, ◌-◌, ◌≤◌, Bool, true, false, not, ◌==◌, List, [], ◌∷◌, ◌++◌, length, take, drop, refl, sym, ap, subst, ◌∙◌}
use Rattle.std.proofs.Common.{arith, inl, inr, Option, Some, zero, suc, replicate}
use Rattle.std.specs.List.{prefix_len, list_all}
use Rattle.std.proofs.lemmas.Bool.{cases_Bool, eqb-true}
use Rattle.std.proofs.lemmas.List.{take-append-drop, drop-drop}
use Rattle.std.proofs.lemmas.List.Folds.{length-prefix_len}
use Rattle.std.proofs.lemmas.List.Sums.{prefix_len-le-length}
use Rattle.std.proofs.Math.Seq.{drop-append_seam}
use Rattle.markdown_scanners_tree.specs.Bytes.{begins_with, line_ending}
use Rattle.markdown_scanners_tree.specs.scanners.Lines.{IsRunOf}
use Rattle.markdown_scanners_tree.proofs.PrefixLemmas.{from_offset, both_true, list_all-prefix, begins_with-after_prefix, prefix_len-parts, same_cut}
use Rattle.markdown_scanners_tree.proofs.scanners.lines.BlankLemmas.{first-line_ending}

pub not_true : (b : Bool) → not b ≡ true → b ≡ false
not_true true h = cc
not_true false h = refl

pub not_false : (b : Bool) → b ≡ false → not b ≡ true
not_false b h = rw h refl

-- a list of one byte
pub list_all-replicate : (p : ℕ → Bool) (n b : ℕ) → p b ≡ true → list_all p (replicate n b) ≡ true
list_all-replicate p zero b passes = refl
list_all-replicate p (suc n) b passes = rw passes (list_all-replicate p n b passes)

pub replicate-all : (byte : ℕ) (bytes : List ℕ) → list_all (λ b. b == byte) bytes ≡ true
    → bytes ≡ replicate (length bytes) byte
replicate-all byte [] all = refl
replicate-all byte (b ∷ bytes) all =
    let both = both_true (b == byte) (list_all (λ x. x == byte) bytes) all in
    let is : b ≡ byte = eqb-true b byte both.0 in
    let tail : bytes ≡ replicate (length bytes) byte = replicate-all byte bytes both.1 in
    cc

-- A run is the longest prefix of its byte.
module _ (byte : ℕ) (bytes : List ℕ) where
  pub run-scanned : (n : ℕ) → n ≡ prefix_len (λ b. b == byte) bytes
      → IsRunOf byte bytes (take n bytes) (drop n bytes) × (length (take n bytes) ≡ n)
  run-scanned n is_run = (
    record {
      parts = sym (take-append-drop n bytes);
      all = rw is_run (list_all-prefix (λ b. b == byte) bytes);
      longest = rw is_run (not_false _ (begins_with-after_prefix (λ b. b == byte) bytes));
    },
    rw is_run (length-prefix_len (λ b. b == byte) bytes),
  )

  pub run-only : (run rest : List ℕ) → IsRunOf byte bytes run rest
      → (length run ≡ prefix_len (λ b. b == byte) bytes) × (rest ≡ drop (prefix_len (λ b. b == byte) bytes) bytes)
  run-only run rest is =
      let whole : prefix_len (λ b. b == byte) bytes ≡ length run = ap (prefix_len (λ b. b == byte)) is.parts
      ∙ prefix_len-parts (λ b. b == byte) run rest is.all (not_true _ is.longest) in
      (sym whole, sym (ap (λ n. drop n bytes) whole ∙ ap (drop (length run)) is.parts ∙ drop-append_seam run rest))

-- A text begins with one run of a byte.
pub one_run : (byte : ℕ) (bytes run rest run' rest' : List ℕ) → IsRunOf byte bytes run rest
    → IsRunOf byte bytes run' rest' → (run ≡ run') × (rest ≡ rest')
one_run byte bytes run rest run' rest' is is' =
    same_cut (λ b. b == byte) run rest run' rest' is.all (not_true _ is.longest) is'.all (not_true _ is'.longest)
    (sym is.parts ∙ is'.parts)

-- A prefix that passes, before a line ending, is the longest one.
module _ (p : ℕ → Bool) (lf : p 10 ≡ false) (cr : p 13 ≡ false) where
  pub prefix-only : (bytes prefix after : List ℕ) (ending : ℕ) → bytes ≡ prefix ++ after → list_all p prefix ≡ true
      → line_ending after ≡ Some ending
      → (length prefix ≡ prefix_len p bytes) × (after ≡ drop (prefix_len p bytes) bytes)
  prefix-only bytes prefix after ending parts all ends =
      let whole : prefix_len p bytes ≡ length prefix = ap (prefix_len p) parts
      ∙ prefix_len-parts p prefix after all (first-line_ending p lf cr after ending ends) in (
        sym whole,
        sym (ap (λ n. drop n bytes) whole ∙ ap (drop (length prefix)) parts
            ∙ drop-append_seam prefix after),
      )

  -- and there is one
  pub one_prefix : (prefix after prefix' after' : List ℕ) (ending ending' : ℕ) → list_all p prefix ≡ true
      → line_ending after ≡ Some ending → list_all p prefix' ≡ true → line_ending after' ≡ Some ending'
      → prefix ++ after ≡ prefix' ++ after' → (prefix ≡ prefix') × (after ≡ after')
  one_prefix prefix after prefix' after' ending ending' all ends all' ends' whole =
      same_cut p prefix after prefix' after' all (first-line_ending p lf cr after ending ends) all'
      (first-line_ending p lf cr after' ending' ends') whole

pub not_empty : (p : ℕ → Bool) (bytes : List ℕ) → 1 ≤ prefix_len p bytes → begins_with p bytes ≡ true
not_empty p [] some = absurd (omega (arith, some))
not_empty p (b ∷ bytes) some = elim (cases_Bool (p b)) [
  | inl passes ↦ passes
  | inr fails ↦ absurd (let none = rw fails at some in omega (arith, none))
]

pub begun_by : (bytes : List ℕ) (x y : ℕ) → begins_with (λ b. b == x) bytes ≡ true
    → begins_with (λ b. b == y) bytes ≡ true → x ≡ y
begun_by [] x y first second = cc
begun_by (b ∷ bytes) x y first second = sym (eqb-true b x first) ∙ eqb-true b y second

-- A run that is not empty is made of the byte that begins the text,
pub run_begins : (byte : ℕ) (bytes run rest : List ℕ) → IsRunOf byte bytes run rest → 1 ≤ length run
    → begins_with (λ b. b == byte) bytes ≡ true
run_begins byte bytes run rest is some =
    let only = run-only byte bytes run rest is in
    let counted : 1 ≤ prefix_len (λ b. b == byte) bytes = omega (arith, only.0, some) in
    not_empty (λ b. b == byte) bytes counted

-- so that there is one such run, whichever byte it is of.
pub one_begun_run : (bytes : List ℕ) (byte : ℕ) (run rest : List ℕ) (byte' : ℕ) (run' rest' : List ℕ)
    → IsRunOf byte bytes run rest → IsRunOf byte' bytes run' rest' → 1 ≤ length run → 1 ≤ length run'
    → (byte ≡ byte') × (run ≡ run') × (rest ≡ rest')
one_begun_run bytes byte run rest byte' run' rest' is is' some some' =
    let same : byte ≡ byte' = begun_by bytes byte byte' (run_begins byte bytes run rest is some)
    (run_begins byte' bytes run' rest' is' some') in
    let parts = one_run byte' bytes run rest run' rest' (subst (λ (b : ℕ). IsRunOf b bytes run rest) same is) is' in
    (same, parts.0, parts.1)

-- What a scan of `&bytes[i..]` or of `&bytes[i + j..]` tells of the bytes from there.
pub prefix_len-from : (p : ℕ → Bool) (bytes : List ℕ) (i n : ℕ)
    → n ≡ prefix_len p (take (length bytes - i) (drop i bytes)) → n ≡ prefix_len p (drop i bytes)
prefix_len-from p bytes i n is = is ∙ ap (prefix_len p) (from_offset bytes i)

pub line_ending-from : (bytes : List ℕ) (i j : ℕ) (ending : Option ℕ)
    → ending ≡ line_ending (take (length bytes - (i + j)) (drop (i + j) bytes))
    → line_ending (drop j (drop i bytes)) ≡ ending
line_ending-from bytes i j ending is =
    sym (is ∙ ap line_ending (from_offset bytes (i + j) ∙ sym (drop-drop j i bytes)))

-- a run whose first byte is known
pub begun_bytes : (byte : ℕ) (bytes : List ℕ) → begins_with (λ b. b == byte) bytes ≡ true → 1 ≤ length bytes
begun_bytes byte [] begins = absurd (let none : false ≡ true = begins in cc)
begun_bytes byte (b ∷ bytes) begins = omega arith

pub begun_length : (byte : ℕ) (bytes : List ℕ) (rest : ℕ) → begins_with (λ b. b == byte) bytes ≡ true
    → rest ≡ prefix_len (λ b. b == byte) (take (length bytes - 1) (drop 1 bytes))
    → (1 + rest ≡ prefix_len (λ b. b == byte) bytes) × (1 + rest ≤ length bytes)
begun_length byte [] rest begins is = absurd (let none : false ≡ true = begins in cc)
begun_length byte (b ∷ bytes) rest begins is =
    let same : (b == byte) ≡ true = begins in
    let counted : rest ≡ prefix_len (λ b. b == byte) bytes =
    is ∙ ap (prefix_len (λ b. b == byte)) (from_offset (b ∷ bytes) 1) in
    let long = prefix_len-le-length (λ b. b == byte) bytes in
    (rw same (omega (arith, counted)), omega (arith, counted, long))
