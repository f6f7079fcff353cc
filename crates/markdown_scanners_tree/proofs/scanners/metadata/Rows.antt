-- Worked examples of metadata blocks, held against the definitions.
use Rattle.std.proofs.Common.{◌≡◌, ℕ, true, false, [], ◌∷◌, ◌==◌, refl, arith, inl, inr}
use Rattle.std.specs.List.{prefix_len}
use Rattle.std.proofs.lemmas.Bool.{cases_Bool, eqb-true}
use Rattle.markdown_scanners_tree.specs.scanners.Metadata.{IsClosingMetadataBlock, IsMetadataBlock}
use Rattle.markdown_scanners_tree.proofs.scanners.lines.BlankLemmas.{IsBlankLine-only}
use Rattle.markdown_scanners_tree.proofs.RunLemmas.{run-only}

-- "--- \n"
closing_line-row : IsClosingMetadataBlock (45 ∷ 45 ∷ 45 ∷ 32 ∷ 10 ∷ []) 45 4
closing_line-row = record {
  byte = 45;
  closing = refl;
  line = record {
    run = 45 ∷ 45 ∷ 45 ∷ [];
    rest = 32 ∷ 10 ∷ [];
    spaces = 32 ∷ [];
    after = 10 ∷ [];
    is_run = record { parts = refl; all = refl; longest = refl };
    exactly_three = refl;
    parts = refl;
    spaces_only = refl;
    ending = 1;
    ends = refl;
    counted = refl;
  };
}

-- "---\na\n..."
metadata-row : IsMetadataBlock (45 ∷ 45 ∷ 45 ∷ 10 ∷ 97 ∷ 10 ∷ 46 ∷ 46 ∷ 46 ∷ []) true false 45
metadata-row = record {
  enabled = refl;
  block = record {
    body = 97 ∷ 10 ∷ 46 ∷ 46 ∷ 46 ∷ [];
    opening = record {
      run = 45 ∷ 45 ∷ 45 ∷ [];
      rest = 10 ∷ 97 ∷ 10 ∷ 46 ∷ 46 ∷ 46 ∷ [];
      after = [];
      is_run = record { parts = refl; all = refl; longest = refl };
      exactly_three = refl;
      parts = refl;
      all_after_opening = refl;
    };
    not_blank =
        λ n line. (let only = IsBlankLine-only (97 ∷ 10 ∷ 46 ∷ 46 ∷ 46 ∷ []) n line in let none = only.1 in cc);
    not_closed = λ n close. no_three close.byte (run-only close.byte
        (97 ∷ 10 ∷ 46 ∷ 46 ∷ 46 ∷ []) close.line.run close.line.rest close.line.is_run).0 close.line.exactly_three;
    closed = record {
      before = 97 ∷ [];
      after = 46 ∷ 46 ∷ 46 ∷ [];
      n = 3;
      later = refl;
      closed = record {
        byte = 46;
        closing = refl;
        line = record {
          run = 46 ∷ 46 ∷ 46 ∷ [];
          rest = [];
          spaces = [];
          after = [];
          is_run = record { parts = refl; all = refl; longest = refl };
          exactly_three = refl;
          parts = refl;
          spaces_only = refl;
          ending = 0;
          ends = refl;
          counted = refl;
        };
      };
    };
  };
}
  where
    no_three : (byte : ℕ) {n : ℕ} → n ≡ prefix_len (λ b. b == byte) (97 ∷ 10 ∷ 46 ∷ 46 ∷ 46 ∷ []) → n ≡ 3 → ⊥
    no_three byte counted three =
        elim (cases_Bool (97 == byte)) [
          | inl first ↦ (let is : 97 ≡ byte = eqb-true 97 byte first in let one = rw (← is) at counted in
              omega (arith, one, three))
          | inr other ↦ (let none = rw other at counted in omega (arith, none, three))
        ]
