-- A kept text is read from one offset of its source to the next.
use Rattle.std.proofs.Common.{ℕ, suc, List, [], ◌∷◌, ◌++◌, ◌+◌, ◌≡◌, Bool, true, false, not, ◌==◌, drop, refl, sym, ap, ◌∙◌, subst, inl, inr, arith}
use Rattle.std.proofs.lemmas.Bool.{cases_Bool, eqb-true}
use Rattle.markdown_scanners_tree.specs.Ascii.{line_feed, carriage_return}
use Rattle.markdown_scanners_tree.specs.Bytes.{begins_with, is_line_ending}
use Rattle.markdown_scanners_tree.specs.Kept.{KeptByte, in_line, at_line_end, kept_line, kept_from, line_len, AreSkips}
use Rattle.markdown_scanners_tree.specs.scanners.tag_state.private.TagMachine.{ends_source_line}
use Rattle.markdown_scanners_tree.proofs.KeptStep.{Reads, reads_more, reads_less, reads_end, reads_from_end, kept_from-return}
use Rattle.markdown_scanners_tree.proofs.RunLemmas.{not_true}

-- The byte at the offset is kept, and what follows it is read from the next offset.
pub record Step (answers : List ℕ → ℕ → Type 0) (offset : ℕ) (source : List ℕ) (kept : KeptByte) (next : ℕ) (rest : List ℕ) : Type 0 where
  pub forth : (c : KeptByte) (t : List KeptByte) → Reads answers next rest (c ∷ t)
      → Reads answers offset source (kept ∷ c ∷ t)
  pub back : (c : KeptByte) (t : List KeptByte) → Reads answers offset source (c ∷ t)
      → (c ≡ kept) × Reads answers next rest t

-- LF, and a CR that no LF follows, end a line alone
pub ends_alone : (offset b : ℕ) (bs : List ℕ) → ends_source_line (b ∷ bs) ≡ true
    → (is_line_ending b ≡ true) × (kept_line offset (b ∷ bs) ≡ at_line_end b offset ∷ []) × (line_len (b ∷ bs) ≡ 1)
ends_alone offset b bs h =
    elim (cases_Bool (b == line_feed)) [
      | inl lf ↦ (rw lf refl, rw lf refl, rw lf refl)
      | inr no_lf ↦ elim (cases_Bool (b == carriage_return)) [
        | inl cr ↦ (
            let alone : begins_with (λ c. c == line_feed) bs ≡ false = not_true _ (rw (no_lf, cr) at h) in
            (rw (no_lf, cr) refl, rw (no_lf, cr, alone) (ap (λ z. at_line_end z offset ∷ []) (sym (eqb-true b carriage_return cr))), rw (no_lf, cr, alone) refl)
            )
        | inr no_cr ↦ absurd (let none = rw (no_lf, no_cr) at h in cc)
      ]
    ]

-- a byte of a line ending that ends no line is a CR before LF
return_before : (b : ℕ) (bs : List ℕ) → is_line_ending b ≡ true → ends_source_line (b ∷ bs) ≡ false
    → (b ≡ carriage_return) × (r : List ℕ) × (bs ≡ line_feed ∷ r)
return_before b bs e h =
    elim (cases_Bool (b == line_feed)) [
      | inl lf ↦ absurd (let ended = rw lf at h in cc)
      | inr no_lf ↦ (
          let cr : (b == carriage_return) ≡ true = rw no_lf at e in
          let next = feed_first bs (rw (no_lf, cr) at h) in
          (eqb-true b carriage_return cr, next.0, next.1)
          )
    ]
  where
    feed_first : (xs : List ℕ) → not (begins_with (λ c. c == line_feed) xs) ≡ false
        → (r : List ℕ) × (xs ≡ line_feed ∷ r)
    feed_first [] n = cc
    feed_first (x ∷ xs) n = (xs, ap (λ z. z ∷ xs) (eqb-true x line_feed (by (x == line_feed) n)))
      where
        by : (v : Bool) → not v ≡ false → v ≡ true
        by true k = refl
        by false k = cc

module _ (answers : List ℕ → ℕ → Type 0) (offset : ℕ) where
  plain_step : (b : ℕ) (bs : List ℕ) → is_line_ending b ≡ false
      → Step answers offset (b ∷ bs) (in_line b offset) (offset + 1) bs
  plain_step b bs plain = record {
    forth = λ c t r. reads_more answers offset b bs plain (c ∷ t) r;
    back = λ c t r. reads_less answers offset b bs plain c t r;
  }

  AreSkips-return : (bs : List ℕ) (skip : ℕ) (skips : List ℕ)
      → AreSkips answers (carriage_return ∷ line_feed ∷ bs) (skip ∷ skips)
      ≡ AreSkips answers (line_feed ∷ bs) (skip ∷ skips)
  AreSkips-return bs skip skips =
      let d : 2 + skip ≡ suc (1 + skip) = omega arith in ap (λ z. (true ≡ true) × answers bs skip × AreSkips answers (drop z (carriage_return ∷ line_feed ∷ bs)) skips) d

  return_forth : (bs : List ℕ) (c : KeptByte) (t rest : List KeptByte) (skips : List ℕ)
      → AreSkips answers (line_feed ∷ bs) skips → kept_from (offset + 1) (line_feed ∷ bs) skips ≡ c ∷ (t ++ rest)
      → Reads answers offset (carriage_return ∷ line_feed ∷ bs) (in_line carriage_return offset ∷ c ∷ t)
  return_forth bs c t rest [] s e = cc
  return_forth bs c t rest (skip ∷ skips) s e = record {
    skips = skip ∷ skips;
    rest = rest;
    answered = subst (λ X. X) (sym (AreSkips-return bs skip skips)) s;
    begins = kept_from-return offset bs skip skips ∙ ap (λ z. in_line carriage_return offset ∷ z) e;
  }

  return_back : (bs : List ℕ) (c : KeptByte) (t rest : List KeptByte) (skips : List ℕ)
      → AreSkips answers (carriage_return ∷ line_feed ∷ bs) skips
      → kept_from offset (carriage_return ∷ line_feed ∷ bs) skips ≡ c ∷ (t ++ rest)
      → (c ≡ in_line carriage_return offset) × Reads answers (offset + 1) (line_feed ∷ bs) t
  return_back bs c t rest [] s e = cc
  return_back bs c t rest (skip ∷ skips) s e =
      let f : in_line carriage_return offset ∷ kept_from (offset + 1) (line_feed ∷ bs) (skip ∷ skips) ≡ c ∷ (t ++ rest) =
      sym (kept_from-return offset bs skip skips) ∙ e in
      let head : c ≡ in_line carriage_return offset = cc in
      let tail : kept_from (offset + 1) (line_feed ∷ bs) (skip ∷ skips) ≡ t ++ rest = cc in
      (head, record { skips = skip ∷ skips; rest = rest; answered = subst (λ X. X) (AreSkips-return bs skip skips) s; begins = tail })

  return_step : (bs : List ℕ)
      → Step answers offset (carriage_return ∷ line_feed ∷ bs) (in_line carriage_return offset) (offset + 1) (line_feed ∷ bs)
  return_step bs = record {
    forth = λ c t r. return_forth bs c t r.rest r.skips r.answered r.begins;
    back = λ c t r. return_back bs c t r.rest r.skips r.answered r.begins;
  }

  -- a byte that ends no line
  pub step_in_line : (b : ℕ) (bs : List ℕ) → ends_source_line (b ∷ bs) ≡ false
      → Step answers offset (b ∷ bs) (in_line b offset) (offset + 1) bs
  step_in_line b bs h =
      elim (cases_Bool (is_line_ending b)) [
        | inr plain ↦ plain_step b bs plain
        | inl ends ↦ (
            let parts = return_before b bs ends h in
            rw (parts.0, parts.2) (return_step parts.1)
            )
      ]

  -- a byte that ends a line, and the one skip after it
  pub step_at_end : (b : ℕ) (bs : List ℕ) (skip : ℕ) → ends_source_line (b ∷ bs) ≡ true → answers bs skip
      → ((n : ℕ) → answers bs n → n ≡ skip)
      → Step answers offset (b ∷ bs) (at_line_end b offset) (offset + (1 + skip)) (drop skip bs)
  step_at_end b bs skip h a only =
      let ends = ends_alone offset b bs h in
      record {
        forth = λ c t r. reads_end answers offset b bs ends.0 ends.1 ends.2 skip (c ∷ t) a r;
        back = λ c t r. (
            let read = reads_from_end answers offset b bs ends.0 ends.1 ends.2 c t r in
            (read.0, subst (λ n. Reads answers (offset + (1 + n)) (drop n bs) t) (only read.1 read.2) read.3)
            );
      }

  -- where no skip is answered nothing is read
  pub no_step : (b : ℕ) (bs : List ℕ) → ends_source_line (b ∷ bs) ≡ true → ((n : ℕ) → answers bs n → ⊥)
      → (c : KeptByte) (t : List KeptByte) → Reads answers offset (b ∷ bs) (c ∷ t) → ⊥
  no_step b bs h none c t r =
      let ends = ends_alone offset b bs h in
      let read = reads_from_end answers offset b bs ends.0 ends.1 ends.2 c t r in
      none read.1 read.2

  pub nothing_read : (c : KeptByte) (t : List KeptByte) → Reads answers offset [] (c ∷ t) → ⊥
  nothing_read c t r = by r.skips r.answered r.begins
    where
      by : (skips : List ℕ) → AreSkips answers [] skips → kept_from offset [] skips ≡ c ∷ (t ++ r.rest) → ⊥
      by [] s e = cc
      by (skip ∷ skips) s e = let none : false ≡ true = s.0 in cc

  pub last_read : (b : ℕ) (bs : List ℕ) → is_line_ending b ≡ false → Reads answers offset (b ∷ bs) (in_line b offset ∷ [])
  last_read b bs plain =
      reads_more answers offset b bs plain [] (record { skips = []; rest = _; answered = tt; begins = refl })
