-- The least offset at which bytes stand in a text.
use Rattle.std.proofs.Common.{◌≡◌, ℕ, zero, suc, ◌+◌, ◌-◌, ◌≤◌, ◌<◌, Bool, true, false, Option, Some, None, ⊎_elim, arith}
use Rattle.std.proofs.Common.{List, ◌++◌, length, get_or, take, drop, length-drop, get_or-drop, length-append, refl, sym, ap, subst, ◌∙◌}
use lib.Pointwise.{pointwise}
use Rattle.std.specs.Prelude.{nat_eq, option_map}
use Rattle.std.proofs.lemmas.List.{take_rest}
use Rattle.std.proofs.lemmas.List.Prefix.{at_reads}
use Rattle.std.proofs.lemmas.Slice.Eq.{starts_is}
use Rattle.std.proofs.lemmas.Bool.Decides.{Decides-eqb}
use Rattle.std.proofs.lemmas.Bool.{cases_Bool, cases_eq, cases_lt, cond-true, cond-false, false≢true, lt-leb, and_left}
use Rattle.memchr.specs.Find.{OccursAt, Nowhere, IsFirst, FindsNeedle, occurs_at}
use Rattle.memchr.proofs.lemmas.MatchLemmas.{OccursAt-split, occurs_at-true, OccursAt-true}
use Rattle.markdown_scanners_tree.specs.inline_html.InlineHtml.{least_offset, first_offset}

module _ (text bytes : List ℕ) where
  hit : (i n : ℕ) → occurs_at text bytes i ≡ true → least_offset text bytes i (suc n) ≡ Some i
  unfolding least_offset
  hit i n h = cond-true _ _ _ h

  miss : (i n : ℕ) → occurs_at text bytes i ≡ false
      → least_offset text bytes i (suc n) ≡ least_offset text bytes (i + 1) n
  unfolding least_offset
  miss i n h = cond-false _ _ _ h

  empty : (i : ℕ) → least_offset text bytes i 0 ≡ None
  unfolding least_offset
  empty i = refl

  -- a search that begins one offset later, after an offset where the bytes do not stand
  IsFirst-later : (i j : ℕ) → ¬ OccursAt text bytes i → (r : Option ℕ) → IsFirst (OccursAt text bytes) (i + 1) j r
      → IsFirst (OccursAt text bytes) i j r
  IsFirst-later i j gone None h = λ k low high occurs.
      ⊎_elim (λ same. gone (subst (OccursAt text bytes) same occurs)) (λ other. h k (omega arith) high occurs) (cases_eq k i)
  IsFirst-later i j gone (Some k) h = (
    record {
      low = omega (arith, h.0.low);
      high = h.0.high;
      before = λ m low below occurs.
          ⊎_elim (λ same. gone (subst (OccursAt text bytes) same occurs)) (λ other. h.0.before m (omega arith) below occurs) (cases_eq m i);
    },
    h.1,
  )

  -- the least offset is the first at which the bytes stand
  least_offset-first : (n i : ℕ) → IsFirst (OccursAt text bytes) i (i + n) (least_offset text bytes i n)
  least_offset-first zero i = rw (empty i) (λ k low high occurs. absurd (omega arith))
  least_offset-first (suc n) i = ⊎_elim
      (λ yes. rw (hit i n yes)
      (record { low = omega arith; high = omega arith; before = λ m low below occurs. absurd (omega arith) }, OccursAt-true text bytes i yes))
      (λ no.
      let step : i + 1 + n ≡ i + suc n = omega arith in
      rw (miss i n no) (IsFirst-later i (i + suc n) (λ occurs. absurd (false≢true (sym no ∙ occurs_at-true text bytes i occurs))) _
      (subst (λ j. IsFirst (OccursAt text bytes) (i + 1) j (least_offset text bytes (i + 1) n)) step (least_offset-first n (i + 1)))))
      (cases_Bool (occurs_at text bytes i))

  pub first_offset-FindsNeedle : (i : ℕ) → FindsNeedle text bytes i (first_offset text bytes i)
  first_offset-FindsNeedle i = ⊎_elim
      (λ past.
      let none : length text + 1 - i ≡ 0 = omega arith in
      rw none (rw (empty i) (λ k low high occurs. absurd (omega arith))))
      (λ within.
      let end : i + (length text + 1 - i) ≡ length text + 1 = omega arith in
      subst (λ j. IsFirst (OccursAt text bytes) i j (first_offset text bytes i)) end (least_offset-first (length text + 1 - i) i))
      (cases_lt (length text) i)

  -- no two answers are first
  FindsNeedle-same : (i : ℕ) (a b : Option ℕ) → FindsNeedle text bytes i a → FindsNeedle text bytes i b → a ≡ b
  FindsNeedle-same i None None p q = refl
  FindsNeedle-same i None (Some k) p q = absurd (p k q.0.low q.0.high q.1)
  FindsNeedle-same i (Some k) None p q = absurd (q k p.0.low p.0.high p.1)
  FindsNeedle-same i (Some k) (Some l) p q = ⊎_elim
      (λ below. absurd (q.0.before k p.0.low below p.1))
      (λ from. ⊎_elim (λ above. absurd (p.0.before l q.0.low above q.1)) (λ to. let same : k ≡ l = omega arith in ap Some same) (cases_lt l k))
      (cases_lt k l)

  pub first_offset-value : (i : ℕ) (r : Option ℕ) → FindsNeedle text bytes i r → r ≡ first_offset text bytes i
  first_offset-value i r h = FindsNeedle-same i r _ h (first_offset-FindsNeedle i)

  -- past the end
  pub first_offset-past : (i : ℕ) → length text < i → first_offset text bytes i ≡ None
  first_offset-past i past =
      let none : length text + 1 - i ≡ 0 = omega arith in
      rw none (empty i)

  -- an offset in the text from i on, counted from i or from 0
  OccursAt-shift : (i k : ℕ) → i ≤ length text → OccursAt (drop i text) bytes k → OccursAt text bytes (i + k)
  OccursAt-shift i k in_text h = record {
    fits = omega (arith, h.fits, length-drop i text);
    reads = λ j below. ap (λ m. get_or text m 0) (omega arith) ∙ sym (get_or-drop i text (k + j) 0) ∙ h.reads j below;
  }

  OccursAt-unshift : (i k : ℕ) → i ≤ length text → OccursAt text bytes (i + k) → OccursAt (drop i text) bytes k
  OccursAt-unshift i k in_text h = record {
    fits = omega (arith, h.fits, length-drop i text);
    reads = λ j below. get_or-drop i text (k + j) 0 ∙ ap (λ m. get_or text m 0) (omega arith) ∙ h.reads j below;
  }

  none_from : (i : ℕ) → i ≤ length text → Nowhere (OccursAt (drop i text) bytes) 0 (length (drop i text) + 1)
      → Nowhere (OccursAt text bytes) i (length text + 1)
  none_from i in_text h k low high occurs =
      let there : i + (k - i) ≡ k = omega arith in
      h (k - i) (omega arith) (omega (arith, length-drop i text)) (OccursAt-unshift i (k - i) in_text (subst (OccursAt text bytes) (sym there) occurs))

  -- a search in the rest of the text from i on
  FindsNeedle-rest : (i : ℕ) → i ≤ length text → (r : Option ℕ) → FindsNeedle (drop i text) bytes 0 r
      → option_map (λ k. i + k) r ≡ first_offset text bytes i
  FindsNeedle-rest i in_text None h = first_offset-value i None (none_from i in_text h)
  FindsNeedle-rest i in_text (Some k) h = first_offset-value i (Some (i + k)) (
    record {
      low = omega arith;
      high = omega (arith, h.1.fits, length-drop i text);
      before = λ m low below occurs.
          let there : i + (m - i) ≡ m = omega arith in
          h.0.before (m - i) (omega arith) (omega arith) (OccursAt-unshift i (m - i) in_text (subst (OccursAt text bytes) (sym there) occurs));
    },
    OccursAt-shift i k in_text h.1,
  )

  pub FindsNeedle-slice : (i : ℕ) → i ≤ length text → (r : Option ℕ)
      → FindsNeedle (take (length text - i) (drop i text)) bytes 0 r
      → option_map (λ k. i + k) r ≡ first_offset text bytes i
  FindsNeedle-slice i in_text r h =
      FindsNeedle-rest i in_text r (subst (λ l. FindsNeedle l bytes 0 r) (take_rest text i) h)

  stands-if : (i : ℕ) (rest : List ℕ) → i ≤ length text → drop i text ≡ bytes ++ rest → OccursAt text bytes i
  stands-if i rest in_text e = record {
    fits = omega (arith, length-drop i text, ap length e, length-append bytes rest);
    reads = λ j below. at_reads 0 text bytes i rest e j below;
  }

  -- whether the rest of the text from i on begins with the bytes
  occurs_at-rest : (i : ℕ) → i ≤ length text → (r : Bool)
      → r ≡ pointwise nat_eq bytes (take (length bytes) (drop i text)) → r ≡ occurs_at text bytes i
  occurs_at-rest i in_text r e =
      let says = starts_is Decides-eqb (drop i text) bytes r e in
      ⊎_elim
      (λ yes. yes ∙ sym (occurs_at-true text bytes i (stands-if i _ in_text (says.0 yes))))
      (λ not. ⊎_elim
      (λ there. absurd (false≢true (sym not ∙ says.1 _ (OccursAt-split text bytes i (OccursAt-true text bytes i there)))))
      (λ gone. not ∙ sym gone)
      (cases_Bool (occurs_at text bytes i)))
      (cases_Bool r)

  pub occurs_at-slice : (i : ℕ) → i ≤ length text → (r : Bool)
      → r ≡ pointwise nat_eq bytes (take (length bytes) (take (length text - i) (drop i text)))
      → r ≡ occurs_at text bytes i
  occurs_at-slice i in_text r e =
      occurs_at-rest i in_text r (e ∙ ap (λ l. pointwise nat_eq bytes (take (length bytes) l)) (take_rest text i))

  pub occurs_at-past : (i : ℕ) → length text < i → occurs_at text bytes i ≡ false
  occurs_at-past i past = and_left _ _ (lt-leb (i + length bytes) (length text) (omega arith))
