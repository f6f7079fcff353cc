-- Labels that stand in a text as they are. (CommonMark 0.31.2, section 6.3, link labels)
use Rattle.std.specs.Prelude.{ℕ, true, false, ◌+◌, ◌<◌, ◌≤◌, ◌≡◌, List, get_or, take}
use Rattle.markdown_scanners_tree.specs.Ascii.{space}
use Rattle.markdown_scanners_tree.specs.NoSkips.{SkipsNothing}
use Rattle.markdown_scanners_tree.specs.linklabel.Label.{Label, IsLabel}
use Rattle.markdown_scanners_tree.specs.linklabel.private.Run.{is_ordinary}

-- the label at the front of the bytes is so many of them, before its right bracket
pub record IsPlainLabel (bytes : List ℕ) (len : ℕ) : Type 0 where
  pub label : Label
  pub is_label : IsLabel SkipsNothing bytes false label
  pub closed : label.len ≡ len + 1
  pub text : label.text ≡ take len bytes

-- a space stands at the front, and after it bytes of a word: so many bytes together
pub record IsSpacedWord (rest : List ℕ) (len : ℕ) : Type 0 where
  pub begins : get_or rest 0 0 ≡ space
  pub some : 2 ≤ len
  pub word : (k : ℕ) → 1 ≤ k → k < len → is_ordinary (get_or rest k 0) ≡ true
