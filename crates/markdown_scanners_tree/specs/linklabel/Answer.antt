-- How a label is answered. (CommonMark 0.31.2, section 6.3, link labels)
use Rattle.std.specs.Prelude.{ℕ, ◌==◌, ◌-◌, List, [], ◌∷◌, take, if◌then◌else◌}
use Rattle.markdown_values.specs.declared.strings.CowStr.{CowStr}
use Rattle.markdown_values.specs.strings.Text.{cow_text, is_borrowed}
use Rattle.markdown_scanners_tree.specs.Ascii.{space}
use Rattle.markdown_scanners_tree.specs.linklabel.Label.{Label}

-- the label that is answered by the bytes taken and a text, which is borrowed where it stands in
-- the source as it is
abbrev pub answered_label : ℕ × CowStr → Label
answered_label r = record { len = r.0; text = cow_text r.1; plain = is_borrowed r.1 }

abbrev pub without_first_space : List ℕ → List ℕ
without_first_space [] = []
without_first_space (b ∷ bs) = if b == space then bs else b ∷ bs

abbrev pub without_last_space : List ℕ → List ℕ
without_last_space [] = []
without_last_space (b ∷ []) = if b == space then [] else b ∷ []
without_last_space (b ∷ c ∷ bs) = b ∷ without_last_space (c ∷ bs)

-- what stands in the text before the closing bracket, the last of n bytes, without one space at
-- each end
abbrev pub slice_before : List ℕ → ℕ → List ℕ
slice_before text n = without_last_space (without_first_space (take (n - 1) text))
