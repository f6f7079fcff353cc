-- Labels under two handlers of which one gives all answers of the other.
use Rattle.std.proofs.Common.{ℕ, Bool, List, [], ◌∷◌, ◌+◌, drop}
use Rattle.markdown_scanners_tree.specs.Kept.{AreSkips, line_len}
use Rattle.markdown_scanners_tree.specs.linklabel.Label.{Label, IsLabel}

-- one handler gives all answers of the other
abbrev pub GivesAll : (List ℕ → ℕ → Type 0) → (List ℕ → ℕ → Type 0) → Type 0
GivesAll more answers = (rest : List ℕ) (skip : ℕ) → answers rest skip → more rest skip

module _ (answers more : List ℕ → ℕ → Type 0) (gives : GivesAll more answers) where
  skips_of_more : (source skips : List ℕ) → AreSkips answers source skips → AreSkips more source skips
  skips_of_more source [] answered = tt
  skips_of_more source (skip ∷ skips) answered =
      let later = skips_of_more (drop (line_len source + skip) source) skips answered.2 in
      (answered.0, gives _ skip answered.1, later)

  pub label_of_more : (source : List ℕ) (in_table : Bool) (label : Label)
      → IsLabel answers source in_table label → IsLabel more source in_table label
  label_of_more source in_table label is =
      record { skips = is.skips; answered = skips_of_more source is.skips is.answered; label_is = is.label_is }
