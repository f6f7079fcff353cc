-- What holds of emphasis, without the procedure that finds it. (CommonMark 0.31.2, section 6.2, rules 1 to 16;
-- GitHub Flavored Markdown 0.29, section 6.5)
use Rattle.std.specs.Prelude.{ℕ, ◌+◌, ◌≤◌, ◌≡◌, ◌⊎◌, List, [], ◌∷◌, ◌++◌, ⊤, IsTrue}
use Rattle.std.specs.List.{AllByRecursion}
use Rattle.markdown_scanners_tree.specs.Ascii.{tilde}
use Rattle.markdown_inlines.specs.declared.emphasis.Delimiters.{Delimiters}
use Rattle.markdown_inlines.specs.declared.emphasis.Emphasis.{Emphasis}
use Rattle.markdown_inlines.specs.Emphasis.{are_pair, breaks_three}

-- the runs stand one after another
abbrev pub AreInOrder : List Delimiters → Type 0
AreInOrder [] = ⊤
AreInOrder (run ∷ later) =
    (run.start ≤ run.end) × AllByRecursion (λ other. run.end ≤ other.start) later × AreInOrder later

-- all delimiters of a run are left
abbrev pub IsWhole : Delimiters → Type 0
IsWhole run = run.end ≡ run.start + run.run.count

abbrev pub AreWhole : List Delimiters → Type 0
AreWhole runs = AllByRecursion IsWhole runs

-- Of these runs one that can open emphasis has its opening delimiters, and a later one that can close it has the closing ones: one
-- or two on each side, of one byte, and by the rule of three (rules 1 to 10); of tildes two runs of one or two, of as
-- many, and all of both.
pub record IsMade (runs : List Delimiters) (emphasis : Emphasis) : Type 0 where
  pub before : List Delimiters
  pub opener : Delimiters
  pub between : List Delimiters
  pub closer : Delimiters
  pub later : List Delimiters
  pub runs_are : runs ≡ before ++ opener ∷ between ++ closer ∷ later
  pub opens : IsTrue opener.run.can_open
  pub closes : IsTrue closer.run.can_close
  pub of_one_byte : opener.run.byte ≡ closer.run.byte
  pub byte_is : emphasis.byte ≡ closer.run.byte
  pub by_three : ¬ IsTrue (breaks_three opener.run closer.run)
  pub as_pair : emphasis.byte ≡ tilde → IsTrue (are_pair opener.run closer.run)
  pub counted : (emphasis.count ≡ 1) ⊎ (emphasis.count ≡ 2)
  pub opening_from : opener.start ≤ emphasis.opening
  pub opening_to : emphasis.opening + emphasis.count ≤ opener.end
  pub closing_from : closer.start ≤ emphasis.closing
  pub closing_to : emphasis.closing + emphasis.count ≤ closer.end
  pub takes_all : AreWhole runs → emphasis.byte ≡ tilde
      → (emphasis.opening ≡ opener.start) × (emphasis.closing ≡ closer.start) × (emphasis.count ≡ opener.run.count)

-- it is around what stands from one offset to another, or after that
abbrev pub IsOutside : ℕ → ℕ → Emphasis → Type 0
IsOutside from to emphasis =
    ((emphasis.opening + emphasis.count ≤ from) × (to ≤ emphasis.closing)) ⊎ (to ≤ emphasis.opening)

-- each is around those that end before it, or after them: no two cross (rules 13 to 16)
abbrev pub AreNested : List Emphasis → Type 0
AreNested [] = ⊤
AreNested (emphasis ∷ later) =
    AllByRecursion (IsOutside emphasis.opening (emphasis.closing + emphasis.count)) later × AreNested later
