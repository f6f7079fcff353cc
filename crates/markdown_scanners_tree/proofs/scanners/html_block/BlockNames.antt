-- The table of block names is in order, and a binary search of it finds what it holds.
use Rattle.std.proofs.Common.{ℕ, zero, suc, List, [], ◌∷◌, ◌≡◌, true, ◌↔◌, IsTrue, length, refl, sym, ◌∙◌, get_or, Less, Equal, Greater, Result, Ok, Err, Contains, Bor, ◌⊎◌, inl, inr, ◌<◌, ◌≤◌, arith}
use Rattle.std.specs.Ordering.{nat_cmp, is_lt}
use Rattle.std.specs.Cmp.Lexicographic.{slice_cmp}
use Rattle.std.specs.Result.{is_ok}
use Rattle.std.specs.List.Sorted.{IsSortedBy, IsBinarySearchResult, IsSearchInRange}
use Rattle.std.proofs.lemmas.List.Sorted.{searchable_from_sorted}
use Rattle.std.proofs.lemmas.Cmp.{nat_list_cmp_total}
use Rattle.std.proofs.lemmas.List.{get_or-map, length-map}
use Rattle.std.proofs.lemmas.Map.Lookups.{exact_bytes}
use Rattle.std.specs.Cmp.{tied_itself}
use native.Mathlib.Numerals.{unary_clauses}
use Rattle.markdown_scanners_tree.specs.scanners.html_block.private.BlockRows.{text, texts, rises}
use Rattle.std.proofs.lemmas.Bool.{cases_lt}
use Rattle.markdown_scanners_tree.proofs.PrefixLemmas.{both_true}
use Rattle.markdown_scanners_tree.proofs.RunLemmas.{not_true}

sorted_from_rises : (rows : List (Bor (List ℕ))) → rises rows ≡ true
    → IsSortedBy (λ a b. is_lt (slice_cmp nat_cmp (text a) (text b))) rows
sorted_from_rises [] e k d low high = absurd (omega arith)
sorted_from_rises (x ∷ []) e k d low high = absurd (omega arith)
sorted_from_rises (x ∷ y ∷ xs) e zero d low high = not_true _ (both_true _ _ e).0
sorted_from_rises (x ∷ y ∷ xs) e (suc k) d low high =
    let h = sorted_from_rises (y ∷ xs) (both_true _ _ e).1 k d (omega arith) (omega arith) in
    simp unary_clauses (simp unary_clauses at h)

-- what a search found is one of the texts
found_one : (rows : List (Bor (List ℕ))) (name : List ℕ) (i : ℕ) → i < length rows
    → ((d : Bor (List ℕ)) → slice_cmp nat_cmp (text (get_or rows i d)) name ≡ Equal) → Contains (texts rows) name
found_one rows name i low same = (
  i,
  rw length-map low,
  rw (get_or-map text rows i (record { ref_ptr = (0, 0); now = name }) name low)
      (exact_bytes _ _ (same (record { ref_ptr = (0, 0); now = name }))),
)

-- a text that stands among them compares as neither less nor greater
missed : (rows : List (Bor (List ℕ))) (name : List ℕ) (i : ℕ)
    → ((k : ℕ) (d : Bor (List ℕ)) → 0 ≤ k → k < i → slice_cmp nat_cmp (text (get_or rows k d)) name ≡ Less)
    → ((k : ℕ) (d : Bor (List ℕ)) → i ≤ k → k < length rows → slice_cmp nat_cmp (text (get_or rows k d)) name ≡ Greater)
    → Contains (texts rows) name → ⊥
missed rows name i below above (k, low, is) =
    let d : Bor (List ℕ) = record { ref_ptr = (0, 0); now = name } in
    let inside : k < length rows = rw length-map at low in
    let row : text (get_or rows k d) ≡ name = sym (get_or-map text rows k d name inside) ∙ is in
    let same : slice_cmp nat_cmp (text (get_or rows k d)) name ≡ Equal = rw row (tied_itself nat_list_cmp_total name) in
    by (cases_lt k i) inside same
  where
    by : ((k < i) ⊎ (i ≤ k)) → k < length rows
        → slice_cmp nat_cmp (text (get_or rows k (record { ref_ptr = (0, 0); now = name }))) name ≡ Equal → ⊥
    by (inr h) inside same = let a = above k (record { ref_ptr = (0, 0); now = name }) h inside in cc
    by (inl h) inside same = let b = below k (record { ref_ptr = (0, 0); now = name }) (omega arith) h in cc

pub search_finds : (rows : List (Bor (List ℕ))) (name : List ℕ) (r : Result ℕ ℕ) → rises rows ≡ true
    → IsBinarySearchResult (λ row. slice_cmp nat_cmp (text row) name) rows r → IsSearchInRange r (length rows)
    → IsTrue (is_ok r) ↔ Contains (texts rows) name
search_finds rows name (Ok i) up result bound = (λ t. found_one rows name i bound result, λ c. refl)
search_finds rows name (Err i) up result bound =
    let parts = result (searchable_from_sorted nat_list_cmp_total text rows name (sorted_from_rises rows up)) in
    (λ t. cc, λ c. absurd (missed rows name i parts.0 parts.1 c))
