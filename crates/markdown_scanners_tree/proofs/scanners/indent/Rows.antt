-- Worked examples of indents, held against the definitions.
use Rattle.std.proofs.Common.{[], ◌∷◌, refl}
use Rattle.markdown_scanners_tree.specs.scanners.Indent.{IsIndent}

-- "  " up to 4, "\t x" up to 4, "\t" up to 3
indent-row : IsIndent (32 ∷ 32 ∷ []) 4 1 2
indent-row = record {
  prefix = 32 ∷ 32 ∷ [];
  rest = [];
  parts = refl;
  passed = refl;
  stopped = refl;
  last_offset = refl;
  counted = refl;
}

indent_tab-row : IsIndent (9 ∷ 32 ∷ 120 ∷ []) 4 2 5
indent_tab-row = record {
  prefix = 9 ∷ 32 ∷ [];
  rest = 120 ∷ [];
  parts = refl;
  passed = refl;
  stopped = refl;
  last_offset = refl;
  counted = refl;
}

indent_past-row : IsIndent (9 ∷ []) 3 0 0
indent_past-row = record {
  prefix = [];
  rest = 9 ∷ [];
  parts = refl;
  passed = refl;
  stopped = refl;
  last_offset = refl;
  counted = refl;
}
