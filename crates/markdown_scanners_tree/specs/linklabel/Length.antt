-- The length of a label whose lines have no markers of containers. (CommonMark 0.31.2, section 6.3, link labels)
use Rattle.std.specs.Prelude.{ℕ, List, ◌≡◌, false}
use Rattle.markdown_scanners_tree.specs.NoSkips.{SkipsNothing}
use Rattle.markdown_scanners_tree.specs.linklabel.Label.{Label, IsLabel}

-- A label stands after its opening bracket, and takes n bytes with its closing one.
pub record IsLabelLength (after : List ℕ) (n : ℕ) : Type 0 where
  pub label : Label
  pub is_label : IsLabel SkipsNothing after false label
  pub counted : n ≡ label.len
