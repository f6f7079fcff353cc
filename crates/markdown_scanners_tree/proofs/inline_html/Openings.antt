-- What begins at an offset, by the bytes that are looked at.
use Rattle.std.proofs.Common.{◌≡◌, ℕ, zero, suc, ◌+◌, ◌≤◌, ◌<◌, true, false, List, [], ◌∷◌, length, get_or, sym, ap, subst, ◌∙◌, arith, ⊎_elim, inl, inr, ◌⊎◌, Option, Some, None, add-zero, refl}
use Rattle.std.specs.Prelude.{slice_get, codes, ◌≢◌, unwrap_or, if◌then◌else◌}
use Rattle.std.proofs.lemmas.Bool.{cases_eq, false≢true, false_from_ne_true}
use Rattle.std.proofs.lemmas.Option.{slice_get_within, get_or_from_slice_get, same_Some, none-some, slice_get-get_or, unwrap_or-slice_get}
use Rattle.memchr.specs.Find.{OccursAt, occurs_at}
use Rattle.memchr.proofs.lemmas.MatchLemmas.{occurs_at-true, OccursAt-true}
use Rattle.markdown_scanners_tree.specs.Ascii.{hyphen, left_bracket}
use Rattle.markdown_scanners_tree.specs.Bytes.{is_letter}
use Rattle.markdown_scanners_tree.specs.inline_html.InlineHtml.{Comment, Cdata, Declaration, Begins, Hyphen, Bracket, Nothing, declared_at}

-- bytes stand at an offset where the first stands there and the others after it
module _ (text : List ℕ) (b : ℕ) (bytes : List ℕ) (p : ℕ) where
  tail-OccursAt : OccursAt text (b ∷ bytes) p → OccursAt text bytes (p + 1)
  tail-OccursAt h = record {
    fits = omega (arith, h.fits);
    reads = λ j below. ap (λ m. get_or text m 0) (omega arith) ∙ h.reads (suc j) (omega arith);
  }

  head-OccursAt : OccursAt text (b ∷ bytes) p → slice_get text p ≡ Some b
  head-OccursAt h =
      let first : get_or text p 0 ≡ b = ap (λ m. get_or text m 0) (sym (add-zero p)) ∙ h.reads 0 (omega arith) in
      slice_get-get_or text p 0 (omega (arith, h.fits)) ∙ ap Some first

  cons-OccursAt : slice_get text p ≡ Some b → OccursAt text bytes (p + 1) → OccursAt text (b ∷ bytes) p
  cons-OccursAt first h = record { fits = omega (arith, h.fits); reads = go }
    where
      go : (j : ℕ) → j < length (b ∷ bytes) → get_or text (p + j) 0 ≡ get_or (b ∷ bytes) j 0
      go zero below = ap (λ m. get_or text m 0) (add-zero p) ∙ get_or_from_slice_get text p b 0 first
      go (suc j) below = ap (λ m. get_or text m 0) (omega arith) ∙ h.reads j (omega arith)

  stands-cons : slice_get text p ≡ Some b → occurs_at text bytes (p + 1) ≡ true
      → occurs_at text (b ∷ bytes) p ≡ true
  stands-cons first rest =
      occurs_at-true text (b ∷ bytes) p (cons-OccursAt first (OccursAt-true text bytes (p + 1) rest))

  stands-not-tail : occurs_at text bytes (p + 1) ≡ false → occurs_at text (b ∷ bytes) p ≡ false
  stands-not-tail rest = false_from_ne_true _ (λ there.
      false≢true (sym rest ∙ occurs_at-true text bytes (p + 1) (tail-OccursAt (OccursAt-true text (b ∷ bytes) p there))))

  stands-not-head : slice_get text p ≢ Some b → occurs_at text (b ∷ bytes) p ≡ false
  stands-not-head other = false_from_ne_true _ (λ there. other (head-OccursAt (OccursAt-true text (b ∷ bytes) p there)))

stands-empty : (text : List ℕ) (p : ℕ) → p ≤ length text → occurs_at text [] p ≡ true
stands-empty text p in_text =
    occurs_at-true text [] p (record { fits = omega arith; reads = λ j below. absurd (omega arith) })

stands-one : (text : List ℕ) (b p : ℕ) → slice_get text p ≡ Some b → occurs_at text (b ∷ []) p ≡ true
stands-one text b p first =
    stands-cons text b [] p first (stands-empty text (p + 1) (let within = slice_get_within text p b first in omega arith))

stands-other : (text : List ℕ) (b c : ℕ) (bytes : List ℕ) (p : ℕ) → slice_get text p ≡ Some c → c ≢ b
    → occurs_at text (b ∷ bytes) p ≡ false
stands-other text b c bytes p first other =
    stands-not-head text b bytes p (λ same. other (same_Some c b (sym first ∙ same)))

stands-nowhere : (text : List ℕ) (b : ℕ) (bytes : List ℕ) (p : ℕ) → slice_get text p ≡ None
    → occurs_at text (b ∷ bytes) p ≡ false
stands-nowhere text b bytes p gone = stands-not-head text b bytes p (λ same. none-some b (sym gone ∙ same))

module _ (text : List ℕ) (p : ℕ) where
  pub declared_at-comment : slice_get text p ≡ Some hyphen → slice_get text (p + 1) ≡ Some hyphen
      → declared_at text p ≡ Begins Comment
  unfolding declared_at
  declared_at-comment first second =
      rw (stands-cons text hyphen (hyphen ∷ []) p first (stands-one text hyphen (p + 1) second))

  pub declared_at-hyphen : slice_get text p ≡ Some hyphen → slice_get text (p + 1) ≢ Some hyphen
      → declared_at text p ≡ Hyphen
  unfolding declared_at
  declared_at-hyphen first second =
      rw (stands-not-tail text hyphen (hyphen ∷ []) p (stands-not-head text hyphen [] (p + 1) second), stands-one text hyphen p first)

  -- no hyphen stands at the offset
  no-hyphens : (c : ℕ) → slice_get text p ≡ Some c → c ≢ hyphen
      → (occurs_at text (hyphen ∷ hyphen ∷ []) p ≡ false) × (occurs_at text (hyphen ∷ []) p ≡ false)
  no-hyphens c first other =
      (stands-other text hyphen c (hyphen ∷ []) p first other, stands-other text hyphen c [] p first other)

  pub declared_at-cdata : slice_get text p ≡ Some left_bracket → occurs_at text (codes "CDATA[") (p + 1) ≡ true
      → declared_at text p ≡ Begins Cdata
  unfolding declared_at
  declared_at-cdata first rest =
      let free = no-hyphens left_bracket first (λ e. omega arith) in
      rw (free.0, free.1, stands-cons text left_bracket (codes "CDATA[") p first rest)

  pub declared_at-bracket : slice_get text p ≡ Some left_bracket → occurs_at text (codes "CDATA[") (p + 1) ≡ false
      → declared_at text p ≡ Bracket
  unfolding declared_at
  declared_at-bracket first rest =
      let free = no-hyphens left_bracket first (λ e. omega arith) in
      rw (free.0, free.1, stands-not-tail text left_bracket (codes "CDATA[") p rest, stands-one text left_bracket p first)

  -- another byte there begins a declaration where it is a letter
  declared_at-byte : (c : ℕ) → slice_get text p ≡ Some c → c ≢ hyphen → c ≢ left_bracket
      → declared_at text p ≡ (if is_letter c then Begins Declaration else Nothing)
  unfolding declared_at
  declared_at-byte c first not_hyphen not_bracket =
      let free = no-hyphens c first not_hyphen in
      rw (
        free.0,
        free.1,
        stands-other text left_bracket c (codes "CDATA[") p first not_bracket,
        stands-other text left_bracket c [] p first not_bracket,
        get_or_from_slice_get text p c 0 first,
      ) refl

  pub declared_at-letter : (c : ℕ) → slice_get text p ≡ Some c → is_letter c ≡ true
      → declared_at text p ≡ Begins Declaration
  declared_at-letter c first letter =
      let is_no : (b : ℕ) → is_letter b ≡ false → c ≢ b =
      λ b none e. false≢true (sym none ∙ subst (λ d. is_letter d ≡ true) e letter) in
      declared_at-byte c first (is_no hyphen refl) (is_no left_bracket refl) ∙ rw letter refl

  pub declared_at-other : (c : ℕ) → slice_get text p ≡ Some c → c ≢ hyphen → c ≢ left_bracket → is_letter c ≡ false
      → declared_at text p ≡ Nothing
  declared_at-other c first not_hyphen not_bracket letter =
      declared_at-byte c first not_hyphen not_bracket ∙ rw letter refl

  pub declared_at-end : slice_get text p ≡ None → declared_at text p ≡ Nothing
  unfolding declared_at
  declared_at-end gone =
      let zero_there : get_or text p 0 ≡ 0 = sym (unwrap_or-slice_get text p 0) ∙ ap (λ o. unwrap_or o 0) gone in
      rw (
        stands-nowhere text hyphen (hyphen ∷ []) p gone,
        stands-nowhere text hyphen [] p gone,
        stands-nowhere text left_bracket (codes "CDATA[") p gone,
        stands-nowhere text left_bracket [] p gone,
        zero_there,
      )

pub stands-length : (text bytes : List ℕ) (p : ℕ) → occurs_at text bytes p ≡ true → p + length bytes ≤ length text
stands-length text bytes p there = (OccursAt-true text bytes p there).fits

pub some_or_not : (o : Option ℕ) (b : ℕ) → (o ≡ Some b) ⊎ (o ≢ Some b)
some_or_not None b = inr (none-some b)
some_or_not (Some a) b =
    ⊎_elim (λ same. inl (ap Some same)) (λ other. inr (λ e. other (same_Some a b e))) (cases_eq a b)
