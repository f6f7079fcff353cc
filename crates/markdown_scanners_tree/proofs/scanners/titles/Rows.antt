-- Worked instances of link titles, held against the definitions.
use Rattle.std.proofs.Common.{[], ◌∷◌, ◌++◌, ◌≡◌, refl, false, true, codes, None}
use Rattle.std.specs.List.{list_all}
use Rattle.markdown_scanners_tree.specs.Ascii.{line_feed, carriage_return, left_parenthesis, right_parenthesis}
use Rattle.markdown_scanners_tree.specs.scanners.TextLines.{lines_of}
use Rattle.markdown_scanners_tree.specs.scanners.titles.LinkTitle.{closing_of, stands_in_title, is_filled, IsLinkTitle}

-- `'a\'b' c`
escaped_row : IsLinkTitle (codes "'a\\'b' c") 6
escaped_row = record {
  opening = 39;
  closing = 39;
  after = codes "a\\'b' c";
  inner = codes "a" ∷ codes "\\'" ∷ codes "b" ∷ [];
  more = codes " " ∷ codes "c" ∷ [];
  opens = refl;
  matching = refl;
  splits = refl;
  each_stands = refl;
  n_is_length = refl;
  no_blank_line = refl;
}

-- over two lines
spanning_row : IsLinkTitle (codes "(a" ++ line_feed ∷ codes "b)") 5
spanning_row = record {
  opening = 40;
  closing = 41;
  after = codes "a" ++ line_feed ∷ codes "b)";
  inner = codes "a" ∷ (line_feed ∷ []) ∷ codes "b" ∷ [];
  more = [];
  opens = refl;
  matching = refl;
  splits = refl;
  each_stands = refl;
  n_is_length = refl;
  no_blank_line = refl;
}

-- a blank line, between LF and between CR LF
blank_row : list_all is_filled (lines_of (codes "'a" ++ line_feed ∷ codes " " ++ line_feed ∷ codes "b'")) ≡ false
blank_row = refl

blank_with_returns :
    list_all is_filled (lines_of (codes "'a" ++ carriage_return ∷ line_feed ∷ carriage_return ∷ line_feed ∷ codes "b'"))
    ≡ false
blank_with_returns = refl

-- a parenthesis stands after a backslash alone
nested_row : stands_in_title left_parenthesis right_parenthesis (codes "(") ≡ false
nested_row = refl

escaped_parenthesis : stands_in_title left_parenthesis right_parenthesis (codes "\\(") ≡ true
escaped_parenthesis = refl

opens_nothing : closing_of right_parenthesis ≡ None
opens_nothing = refl
