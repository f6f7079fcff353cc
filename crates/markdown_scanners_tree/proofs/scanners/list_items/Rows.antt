-- Worked examples of list items, held against the definitions.
use Rattle.std.proofs.Common.{◌≡◌, [], ◌∷◌, refl, arith}
use Rattle.markdown_scanners_tree.specs.scanners.list_items.ListItem.{bullet, ordered, text, blank, indented_code, IsListItem}
use Rattle.std.specs.Str.Parse.{digits_value}
use Rattle.markdown_scanners_tree.proofs.scanners.lines.BlankLemmas.{IsBlankLine-only}

-- "123"
value-row : digits_value 10 (49 ∷ 50 ∷ 51 ∷ []) ≡ 123
value-row = refl

-- "-   x"
item-row : IsListItem (45 ∷ 32 ∷ 32 ∷ 32 ∷ 120 ∷ []) 4 45 0 4
item-row = record {
  marker = 45 ∷ [];
  rest = 32 ∷ 32 ∷ 32 ∷ 120 ∷ [];
  offset = 3;
  space = 3;
  parts = refl;
  is_marker = bullet 45 refl;
  is_space =
      text 3 3 (λ n line. (let only = IsBlankLine-only (32 ∷ 32 ∷ 32 ∷ 120 ∷ []) n line in let none = only.1 in cc))
      (record {
        prefix = 32 ∷ 32 ∷ 32 ∷ [];
        rest = 120 ∷ [];
        parts = refl;
        passed = refl;
        stopped = refl;
        last_offset = refl;
        counted = refl;
      }) (omega arith) (omega arith);
  counted = refl;
  columns_are = refl;
}

-- "1.", six spaces, "x"
item_code-row : IsListItem (49 ∷ 46 ∷ 32 ∷ 32 ∷ 32 ∷ 32 ∷ 32 ∷ 32 ∷ 120 ∷ []) 3 46 1 3
item_code-row = record {
  marker = 49 ∷ 46 ∷ [];
  rest = 32 ∷ 32 ∷ 32 ∷ 32 ∷ 32 ∷ 32 ∷ 120 ∷ [];
  offset = 1;
  space = 1;
  parts = refl;
  is_marker = ordered (49 ∷ []) 46 (omega arith) (omega arith) refl refl;
  is_space = indented_code 4 5 (λ n line. (let only =
      IsBlankLine-only (32 ∷ 32 ∷ 32 ∷ 32 ∷ 32 ∷ 32 ∷ 120 ∷ []) n line in let none = only.1 in cc))
      (record {
        prefix = 32 ∷ 32 ∷ 32 ∷ 32 ∷ [];
        rest = 32 ∷ 32 ∷ 120 ∷ [];
        parts = refl;
        passed = refl;
        stopped = refl;
        last_offset = refl;
        counted = refl;
      }) (omega arith);
  counted = refl;
  columns_are = refl;
}

-- "-", a vertical tab, LF
item_blank-row : IsListItem (45 ∷ 11 ∷ 10 ∷ []) 1 45 0 2
item_blank-row = record {
  marker = 45 ∷ [];
  rest = 11 ∷ 10 ∷ [];
  offset = 0;
  space = 1;
  parts = refl;
  is_marker = bullet 45 refl;
  is_space = blank 2 (record
      { space = 11 ∷ []; rest = 10 ∷ []; ending = 1; parts = refl; spaces = refl; ends = refl; counted = refl });
  counted = refl;
  columns_are = refl;
}
