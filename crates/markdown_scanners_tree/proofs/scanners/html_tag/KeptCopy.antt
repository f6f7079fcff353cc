-- How much of a kept text is copied.
use Rattle.std.proofs.Common.{ℕ, List, [], ◌∷◌, ◌++◌, ◌+◌, ◌<◌, ◌≡◌, length, drop, get_or, refl, sym, ap, ◌∙◌, subst, append_assoc, length-append, inl, inr, arith}
use Rattle.std.proofs.lemmas.Bool.{cases_lt}
use Rattle.std.proofs.lemmas.List.{drop_all, map-append, length-map}
use Rattle.markdown_scanners_tree.specs.Kept.{KeptByte, bytes_of}
use Rattle.markdown_scanners_tree.specs.scanners.html_tag.KeptTag.{IsKeptPrefix}
use Rattle.markdown_scanners_tree.proofs.KeptStep.{Reads}
use Rattle.markdown_scanners_tree.proofs.KeptReading.{nothing_read}
use Rattle.markdown_scanners_tree.proofs.scanners.html_tag.TagScan.{Turn}

-- the prefix is what is copied and what is read from the offset on
pub record Split (answers : List ℕ → ℕ → Type 0) (source : List ℕ) (offset : ℕ) (copied : List ℕ)
    (prefix : List KeptByte) : Type 0 where
  pub passed : List KeptByte
  pub left : List KeptByte
  pub parts : prefix ≡ passed ++ left
  pub same : copied ≡ bytes_of passed
  pub reads : Reads answers offset (drop offset source) left

-- each prefix of that length
pub record Copied (answers : List ℕ → ℕ → Type 0) (source : List ℕ) (offset kept : ℕ) (copied : List ℕ) : Type 0 where
  pub each : (prefix : List KeptByte) → IsKeptPrefix answers source prefix → kept ≡ length prefix
      → Split answers source offset copied prefix

pub copy_starts : (answers : List ℕ → ℕ → Type 0) (source : List ℕ) (kept : ℕ) → Copied answers source 0 kept []
copy_starts answers source kept =
    record {
      each = λ prefix k e. record {
        passed = [];
        left = prefix;
        parts = refl;
        same = refl;
        reads = record { skips = k.skips; rest = k.rest; answered = k.answered; begins = k.begins };
      };
    }

lengths : (answers : List ℕ → ℕ → Type 0) (source : List ℕ) (offset kept : ℕ) (copied : List ℕ)
    (prefix : List KeptByte) (s : Split answers source offset copied prefix)
    → kept ≡ length prefix → kept ≡ length copied + length s.left
lengths answers source offset kept copied prefix s e =
    let whole : length prefix ≡ length s.passed + length s.left = ap length s.parts ∙ length-append s.passed s.left in
    let some : length copied ≡ length s.passed = ap length s.same ∙ length-map s.passed (λ k. k.byte) in
    omega arith

-- where some are left to copy, one is read next
next_left : (answers : List ℕ → ℕ → Type 0) (source : List ℕ) (offset kept : ℕ) (copied : List ℕ)
    (prefix : List KeptByte) (s : Split answers source offset copied prefix)
    → kept ≡ length prefix → length copied < kept → (c : KeptByte) × (t : List KeptByte) × (s.left ≡ c ∷ t)
next_left answers source offset kept copied prefix s e low =
    by s.left (lengths answers source offset kept copied prefix s e)
  where
    by : (left : List KeptByte) → kept ≡ length copied + length left
        → (c : KeptByte) × (t : List KeptByte) × (left ≡ c ∷ t)
    by [] f = absurd (omega arith)
    by (c ∷ t) f = (c, t, refl)

module _ (answers : List ℕ → ℕ → Type 0) (source : List ℕ) (offset kept : ℕ) (copied : List ℕ)
    (s : Copied answers source offset kept copied) where
  pub copy_inside : ((prefix : List KeptByte) × IsKeptPrefix answers source prefix × (kept ≡ length prefix))
      → length copied < kept → offset < length source
  copy_inside (prefix, k, e) low =
      elim (cases_lt offset (length source)) [
        | inl inside ↦ inside
        | inr high ↦ (
            let split = s.each prefix k e in
            let next = next_left answers source offset kept copied prefix split e low in
            absurd (nothing_read answers offset next.0 next.1
            (subst (λ z. Reads answers offset z (next.0 ∷ next.1)) (drop_all offset source high)
            (subst (λ z. Reads answers offset (drop offset source) z) next.2 split.reads)))
            )
      ]

  pub copy_goes_on : (endings next marks : ℕ) → length copied < kept → Turn answers source offset endings next marks
      → Copied answers source next kept (copied ++ get_or source offset 0 ∷ [])
  copy_goes_on endings next marks low turn = record {
    each = λ prefix k e. (
        let split = s.each prefix k e in
        let left = next_left answers source offset kept copied prefix split e low in
        let back =
        turn.step.back left.0 left.1 (subst (λ z. Reads answers offset (drop offset source) z) left.2 split.reads) in
        record {
          passed = split.passed ++ turn.kept ∷ [];
          left = left.1;
          parts =
              split.parts ∙ ap (λ z. split.passed ++ z) (left.2 ∙ ap (λ c. c ∷ left.1) back.0)
              ∙ sym (append_assoc split.passed (turn.kept ∷ []) left.1);
          same =
              ap (λ z. z ++ get_or source offset 0 ∷ []) split.same
              ∙ ap (λ b. bytes_of split.passed ++ b ∷ []) (sym turn.byte)
              ∙ sym (map-append (λ k. k.byte) split.passed (turn.kept ∷ []));
          reads = back.1;
        }
        );
  }
