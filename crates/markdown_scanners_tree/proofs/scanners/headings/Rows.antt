-- Worked examples of headings, held against the definitions.
use Rattle.std.proofs.Common.{◌≡◌, [], ◌∷◌, refl, arith}
use Rattle.markdown_values.specs.values.Headings.{heading_number}
use Rattle.markdown_values.specs.declared.values.HeadingLevel.{HeadingLevel}
use Rattle.markdown_values.specs.declared.values.HeadingLevel.TheVariants.{H1, H2, H3, H4, H5, H6}
use Rattle.markdown_scanners_tree.specs.scanners.Headings.{IsAtxHeading, IsSetextUnderline}
use Rattle.markdown_scanners_tree.proofs.scanners.headings.HeadingLemmas.{atx-only}

-- "###" and "#######"
atx-row : IsAtxHeading (35 ∷ 35 ∷ 35 ∷ []) H3
atx-row = record { rest = []; parts = refl; ends = refl }

seven_hashes-row : (level : HeadingLevel) → ¬ IsAtxHeading (35 ∷ 35 ∷ 35 ∷ 35 ∷ 35 ∷ 35 ∷ 35 ∷ []) level
seven_hashes-row level heading = let number = (atx-only (35 ∷ 35 ∷ 35 ∷ 35 ∷ 35 ∷ 35 ∷ 35 ∷ []) level heading).0 in
    at_most_six level number
  where
    at_most_six : (level : HeadingLevel) → 7 ≡ heading_number level → ⊥
    at_most_six H1 seven = omega (arith, seven)
    at_most_six H2 seven = omega (arith, seven)
    at_most_six H3 seven = omega (arith, seven)
    at_most_six H4 seven = omega (arith, seven)
    at_most_six H5 seven = omega (arith, seven)
    at_most_six H6 seven = omega (arith, seven)

-- "==  \nx"
setext-row : IsSetextUnderline (61 ∷ 61 ∷ 32 ∷ 32 ∷ 10 ∷ 120 ∷ []) 5 H1
setext-row = record {
  byte = 61;
  run = 61 ∷ 61 ∷ [];
  rest = 32 ∷ 32 ∷ 10 ∷ 120 ∷ [];
  blank = 3;
  of_level = refl;
  is_run = record { parts = refl; all = refl; longest = refl };
  at_least_one = omega arith;
  blank_rest = record {
    space = 32 ∷ 32 ∷ [];
    rest = 10 ∷ 120 ∷ [];
    ending = 1;
    parts = refl;
    spaces = refl;
    ends = refl;
    counted = refl;
  };
  counted = refl;
}
