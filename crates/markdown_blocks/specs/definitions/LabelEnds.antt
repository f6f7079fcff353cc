-- Where the label of a link reference definition may end. (CommonMark 0.31.2, section 4.7)
use Rattle.std.specs.Prelude.{ℕ, Bool, false, ◌==◌, ◌&&◌, List, [], ◌∷◌}
use Rattle.markdown_scanners_tree.specs.Ascii.{colon, right_bracket}
use Rattle.markdown_scanners_tree.specs.scanners.html_kinds.HtmlKinds.{is_somewhere}

-- a bracket is closed at the front, and a colon stands directly after it
abbrev pub is_label_end : List ℕ → Bool
is_label_end [] = false
is_label_end (b ∷ []) = false
is_label_end (b ∷ c ∷ bytes) = b == right_bracket && c == colon

-- and so somewhere in the text, as in each that has the label of a definition
abbrev pub has_label_end : List ℕ → Bool
has_label_end = is_somewhere is_label_end
