-- Worked examples of code fences, held against the definitions.
use Rattle.std.proofs.Common.{[], ◌∷◌, refl, arith}
use Rattle.markdown_scanners_tree.specs.scanners.Fences.{IsCodeFence, IsClosingCodeFence}

-- "~~~a`" and "```rs\n`"
fence-row : IsCodeFence (126 ∷ 126 ∷ 126 ∷ 97 ∷ 96 ∷ []) 3 126
fence-row = record {
  run = 126 ∷ 126 ∷ 126 ∷ [];
  rest = 97 ∷ 96 ∷ [];
  of_fence_byte = refl;
  is_run = record { parts = refl; all = refl; longest = refl };
  at_least_three = omega arith;
  no_further_backtick = λ is. absurd (omega (arith, is));
  counted = refl;
}

fence_info-row : IsCodeFence (96 ∷ 96 ∷ 96 ∷ 114 ∷ 115 ∷ 10 ∷ 96 ∷ []) 3 96
fence_info-row = record {
  run = 96 ∷ 96 ∷ 96 ∷ [];
  rest = 114 ∷ 115 ∷ 10 ∷ 96 ∷ [];
  of_fence_byte = refl;
  is_run = record { parts = refl; all = refl; longest = refl };
  at_least_three = omega arith;
  no_further_backtick = λ is. refl;
  counted = refl;
}

-- "~~~ \t\r\n", and no bytes
close-row : IsClosingCodeFence (126 ∷ 126 ∷ 126 ∷ 32 ∷ 9 ∷ 13 ∷ 10 ∷ []) 126 3 5
close-row = record {
  run = 126 ∷ 126 ∷ 126 ∷ [];
  rest = 32 ∷ 9 ∷ 13 ∷ 10 ∷ [];
  space = 32 ∷ 9 ∷ [];
  after = 13 ∷ 10 ∷ [];
  is_run = record { parts = refl; all = refl; longest = refl };
  long_enough = omega arith;
  parts = refl;
  spaces = refl;
  ending = 2;
  ends = refl;
  counted = refl;
}

close_end-row : IsClosingCodeFence [] 96 3 0
close_end-row = refl
