-- The name at the front of an HTML block is the longest run of letters and digits.
use Rattle.std.proofs.Common.{ℕ, zero, suc, List, [], ◌∷◌, ◌++◌, ◌-◌, ◌<◌, ◌≡◌, ◌⊎◌, ◌↔◌, inl, inr, Bool, true, false, cond, ◌==◌, IsTrue, length, take, drop, get_or, refl, sym, ap, ◌∙◌, subst, arith}
use Rattle.std.specs.Prelude.{codes}
use Rattle.std.specs.List.{list_all, prefix_len, AllPass}
use Rattle.std.proofs.lemmas.Bool.{eqb-true}
use Rattle.std.proofs.lemmas.Bool.Decides.{nat_tests}
use Rattle.std.proofs.lemmas.List.{take-append-drop}
use Rattle.std.proofs.lemmas.List.Sums.{AllPass-from_list_all, list_all-from_AllPass}
use Rattle.std.proofs.Math.Seq.{drop-append_seam, take-append_seam}
use Rattle.markdown_scanners_tree.specs.Ascii.{slash}
use Rattle.markdown_scanners_tree.specs.Bytes.{begins_with, is_alphanumeric}
use Rattle.markdown_scanners_tree.specs.scanners.html_block.HtmlBlock.{block_names, IsBlockName, ends_block_name, IsBlockStart}
use Rattle.markdown_scanners_tree.specs.scanners.html_block.private.BlockRows.{after_slash}
use Rattle.markdown_scanners_tree.proofs.PrefixLemmas.{both_true, list_all-prefix, prefix_len-parts, from_offset}

abbrev run : List ℕ → ℕ
run = prefix_len is_alphanumeric

ends_run : (rest : List ℕ) → ends_block_name rest ≡ true → begins_with is_alphanumeric rest ≡ false
ends_run [] e = refl
ends_run (b ∷ bs) e = grind (arith, nat_tests)

-- no row is empty
is_filled : List ℕ → Bool
is_filled [] = false
is_filled (b ∷ bs) = true

filled_at : (xs : List (List ℕ)) → list_all is_filled xs ≡ true → (k : ℕ) → k < length xs → get_or xs k [] ≡ [] → ⊥
unfolding is_filled
filled_at [] a k low e = absurd (omega arith)
filled_at (x ∷ xs) a zero low e =
    let f : is_filled x ≡ true = (both_true _ _ a).0 in let g : is_filled x ≡ false = ap is_filled e in cc
filled_at (x ∷ xs) a (suc k) low e = filled_at xs (both_true _ _ a).1 k (omega arith) e

no_empty_name : IsBlockName [] → ⊥
unfolding is_filled
no_empty_name c = filled_at block_names refl c.0 c.1 c.2

slash_split : (bytes : List ℕ)
    → (closing : List ℕ) × (bytes ≡ closing ++ after_slash bytes) × ((closing ≡ []) ⊎ (closing ≡ codes "/"))
slash_split [] = ([], refl, inl refl)
slash_split (b ∷ bs) = by (b == slash) refl
  where
    by : (v : Bool) → (b == slash) ≡ v
        → (closing : List ℕ) × (b ∷ bs ≡ closing ++ cond v bs (b ∷ bs)) × ((closing ≡ []) ⊎ (closing ≡ codes "/"))
    by true e = (b ∷ [], refl, inr (ap (λ z. z ∷ []) (eqb-true b slash e)))
    by false e = ([], refl, inl refl)

block_from : (bytes : List ℕ) → IsBlockName (take (run (after_slash bytes)) (after_slash bytes))
    → ends_block_name (drop (run (after_slash bytes)) (after_slash bytes)) ≡ true → IsBlockStart bytes
block_from bytes n e =
    let s = slash_split bytes in
    record {
      closing = s.0;
      name = take (run (after_slash bytes)) (after_slash bytes);
      rest = drop (run (after_slash bytes)) (after_slash bytes);
      parts = s.1 ∙ ap (λ z. s.0 ++ z) (sym (take-append-drop (run (after_slash bytes)) (after_slash bytes)));
      slash_or_none = s.2;
      letters_and_digits =
          AllPass-from_list_all is_alphanumeric _ (list_all-prefix is_alphanumeric (after_slash bytes));
      named = n;
      ended = e;
    }

after_none : (name rest : List ℕ) → IsBlockName name → AllPass is_alphanumeric name
    → after_slash (name ++ rest) ≡ name ++ rest
after_none [] rest n a = absurd (no_empty_name n)
after_none (x ∷ xs) rest n a =
    let first : is_alphanumeric x ≡ true = a 0 x (omega arith) in
    let k : (x == slash) ≡ false = grind (arith, nat_tests) in
    rw k refl

after_is : (bytes : List ℕ) (b : IsBlockStart bytes) → after_slash bytes ≡ b.name ++ b.rest
after_is bytes b = ap after_slash b.parts ∙ by b.slash_or_none
  where
    by : (b.closing ≡ []) ⊎ (b.closing ≡ codes "/") → after_slash (b.closing ++ (b.name ++ b.rest)) ≡ b.name ++ b.rest
    by (inl e) =
        ap (λ z. after_slash (z ++ (b.name ++ b.rest))) e ∙ after_none b.name b.rest b.named b.letters_and_digits
    by (inr e) = ap (λ z. after_slash (z ++ (b.name ++ b.rest))) e

block_to : (bytes : List ℕ) → IsBlockStart bytes
    → IsBlockName (take (run (after_slash bytes)) (after_slash bytes))
    × (ends_block_name (drop (run (after_slash bytes)) (after_slash bytes)) ≡ true)
block_to bytes b =
    let e : after_slash bytes ≡ b.name ++ b.rest = after_is bytes b in
    let n : run (b.name ++ b.rest) ≡ length b.name =
    prefix_len-parts is_alphanumeric b.name b.rest
    (list_all-from_AllPass is_alphanumeric b.name b.letters_and_digits) (ends_run b.rest b.ended) in
    rw (e, n) (
      subst IsBlockName (sym (take-append_seam b.name b.rest)) b.named,
      ap ends_block_name (drop-append_seam b.name b.rest) ∙ b.ended,
    )

-- by the tests of a scan
module _ (bytes after : List ℕ) (n : ℕ) (ended : Bool) (a : after ≡ after_slash bytes) (k : n ≡ run after)
    (e : ended ≡ ends_block_name (take (length after - n) (drop n after))) where
  name_is : take n after ≡ take (run (after_slash bytes)) (after_slash bytes)
  name_is = ap (λ z. take z after) k ∙ ap (λ z. take (run z) z) a

  rest_is : take (length after - n) (drop n after) ≡ drop (run (after_slash bytes)) (after_slash bytes)
  rest_is = from_offset after n ∙ ap (λ z. drop z after) k ∙ ap (λ z. drop (run z) z) a

  pub starts_where_ended : (named : Bool) → (IsTrue named ↔ IsBlockName (take n after)) → ended ≡ true
      → IsTrue named ↔ IsBlockStart bytes
  starts_where_ended named h t = (
    λ w. block_from bytes (subst IsBlockName name_is (h.0 w)) (ap ends_block_name (sym rest_is) ∙ sym e ∙ t),
    λ b. h.1 (subst IsBlockName (sym name_is) (block_to bytes b).0),
  )

  pub starts_not_unended : ended ≡ false → IsTrue ended ↔ IsBlockStart bytes
  starts_not_unended f = (λ t. cc, λ b. e ∙ ap ends_block_name rest_is ∙ (block_to bytes b).1)
