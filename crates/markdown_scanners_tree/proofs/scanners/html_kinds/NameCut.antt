-- The first bytes after `<` tell whether a block name stands there.
use Rattle.std.proofs.Common.{ℕ, zero, suc, List, [], ◌∷◌, ◌++◌, ◌+◌, ◌-◌, ◌<◌, ◌≤◌, ◌≡◌, ◌⊎◌, ◌↔◌, inl, inr}
use Rattle.std.proofs.Common.{Bool, true, IsTrue, length, take, drop, map, min, get_or, refl, sym, ap, ◌∙◌, subst, arith, append_assoc, length-append}
use Rattle.std.specs.Prelude.{codes, nat_le}
use Rattle.std.specs.List.{list_all}
use Rattle.std.specs.Char.{to_ascii_lowercase}
use Rattle.std.proofs.lemmas.Bool.{leb-true}
use Rattle.std.proofs.lemmas.List.{length-map, length-take, drop_all, take-append-drop}
use Rattle.std.proofs.Math.Seq.{take-append-add}
use Rattle.markdown_scanners_tree.specs.scanners.html_block.HtmlBlock.{block_names, IsBlockName, ends_block_name, IsBlockStart}
use Rattle.markdown_scanners_tree.proofs.PrefixLemmas.{both_true}

-- a block name has ten bytes at most
short_at : (xs : List (List ℕ)) → list_all (λ name. nat_le (length name) 10) xs ≡ true → (i : ℕ) (d : List ℕ)
    → i < length xs → length (get_or xs i d) ≤ 10
short_at [] a i d low = absurd (omega arith)
short_at (x ∷ xs) a zero d low = leb-true (length x) 10 (both_true _ _ a).0
short_at (x ∷ xs) a (suc i) d low = short_at xs (both_true _ _ a).1 i d (omega arith)

short_name : (name : List ℕ) → IsBlockName name → length name ≤ 10
short_name name (i, low, is) =
    let short : length (get_or block_names i (map to_ascii_lowercase name)) ≤ 10 = short_at block_names refl i _ low in
    let size : length (get_or block_names i (map to_ascii_lowercase name)) ≡ length name =
    ap length is ∙ length-map name to_ascii_lowercase in
    omega arith

short_slash : (closing : List ℕ) → (closing ≡ []) ⊎ (closing ≡ codes "/") → length closing ≤ 1
short_slash closing (inl e) = let size : length closing ≡ 0 = ap length e in omega arith
short_slash closing (inr e) = let size : length closing ≡ 1 = ap length e in omega arith

ends_with_more : (rest more : List ℕ) → ends_block_name rest ≡ true → (length rest < 2 → more ≡ [])
    → ends_block_name (rest ++ more) ≡ true
ends_with_more [] more e none = ap ends_block_name (none (omega arith))
ends_with_more (b ∷ []) more e none = ap (λ z. ends_block_name (b ∷ z)) (none (omega arith)) ∙ e
ends_with_more (b ∷ c ∷ bs) more e none = e

ends_with_less : (rest : List ℕ) (k : ℕ) → ends_block_name (take (suc (suc k)) rest) ≡ ends_block_name rest
ends_with_less [] k = refl
ends_with_less (b ∷ []) k = refl
ends_with_less (b ∷ c ∷ bs) k = refl

module _ (bytes : List ℕ) where
  whole : IsBlockStart (take 13 bytes) → IsBlockStart bytes
  whole b =
      let slash = short_slash b.closing b.slash_or_none in
      let name = short_name b.name b.named in
      let size : min 13 (length bytes) ≡ length b.closing + (length b.name + length b.rest) =
      sym (length-take 13 bytes) ∙ ap length b.parts ∙ length-append b.closing (b.name ++ b.rest)
      ∙ ap (λ n. length b.closing + n) (length-append b.name b.rest) in
      record {
        closing = b.closing;
        name = b.name;
        rest = b.rest ++ drop 13 bytes;
        parts =
            sym (take-append-drop 13 bytes) ∙ ap (λ z. z ++ drop 13 bytes) b.parts
            ∙ append_assoc b.closing (b.name ++ b.rest) (drop 13 bytes)
            ∙ ap (λ z. b.closing ++ z) (append_assoc b.name b.rest (drop 13 bytes));
        slash_or_none = b.slash_or_none;
        letters_and_digits = b.letters_and_digits;
        named = b.named;
        ended = ends_with_more b.rest (drop 13 bytes) b.ended (λ few. drop_all 13 bytes (omega arith));
      }

  front : IsBlockStart bytes → IsBlockStart (take 13 bytes)
  front b =
      let slash = short_slash b.closing b.slash_or_none in
      let name = short_name b.name b.named in
      let more = 11 - (length b.closing + length b.name) in
      let room : 13 ≡ length b.closing + (length b.name + suc (suc more)) = omega arith in
      record {
        closing = b.closing;
        name = b.name;
        rest = take (suc (suc more)) b.rest;
        parts =
            ap (take 13) b.parts ∙ ap (λ n. take n (b.closing ++ (b.name ++ b.rest))) room
            ∙ take-append-add b.closing (b.name ++ b.rest) (length b.name + suc (suc more))
            ∙ ap (λ z. b.closing ++ z) (take-append-add b.name b.rest (suc (suc more)));
        slash_or_none = b.slash_or_none;
        letters_and_digits = b.letters_and_digits;
        named = b.named;
        ended = ends_with_less b.rest more ∙ b.ended;
      }

  pub given_by_front : (given : Bool) (cut : List ℕ) → cut ≡ take 13 bytes → (IsTrue given ↔ IsBlockStart cut)
      → IsTrue given ↔ IsBlockStart bytes
  given_by_front given cut is tells = (
    λ t. whole (subst IsBlockStart is (tells.0 t)),
    λ b. tells.1 (subst IsBlockStart (sym is) (front b)),
  )
