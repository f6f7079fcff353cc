-- The indent of a line, up to a limit. (CommonMark 0.31.2, section 2.2, tabs)
use Rattle.std.specs.Prelude.{ℕ, Bool, true, not, List, [], ◌∷◌, ◌++◌, ◌≡◌, ◌==◌, ◌||◌, ◌&&◌, ◌+◌, ◌-◌, nat_le, length, IsTrue, if◌then◌else◌}
use Rattle.markdown_scanners_tree.specs.Ascii.{tab, space}
use Rattle.markdown_scanners_tree.specs.Bytes.{begins_with, ends_or_begins_with}
use Rattle.markdown_scanners_tree.specs.Columns.{next_tab_stop, column_after, column_past}

-- A space at this column goes on unless it fills the limit, and a tab unless it goes past the
-- limit.
abbrev pub goes_on : ℕ → ℕ → ℕ → Bool
goes_on limit column b =
    (b == space && not (column + 1 == limit)) || (b == tab && nat_le (next_tab_stop column) limit)

-- each of these bytes goes on, where the first stands at this column
abbrev pub all_go_on : ℕ → ℕ → List ℕ → Bool
all_go_on limit column [] = true
all_go_on limit column (b ∷ bs) =
    goes_on limit column b && all_go_on limit (column_after column b) bs

-- The indent of a text: a prefix of spaces and tabs that go on, and the byte that stops them, or
-- the end.
-- `offset` is the offset of the last byte that was looked at, and a space that fills the limit is
-- counted.
pub record IsIndent (text : List ℕ) (limit offset total : ℕ) : Type 0 where
  pub prefix : List ℕ
  pub rest : List ℕ
  pub parts : text ≡ prefix ++ rest
  pub passed : IsTrue (all_go_on limit 0 prefix)
  pub stopped : IsTrue
      (ends_or_begins_with (λ b. not (goes_on limit (column_past 0 prefix) b)) rest)
  pub last_offset : offset
      ≡ (if begins_with (λ b. true) rest then length prefix else length prefix - 1)
  pub counted : total ≡ column_past 0 prefix + (if begins_with (λ b. b == space) rest then 1 else 0)
