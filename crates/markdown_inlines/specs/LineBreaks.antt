-- Line breaks within a block. (CommonMark 0.31.2, sections 6.7, hard line breaks, and 6.8, soft line breaks)
use Rattle.std.specs.Prelude.{ℕ, Bool, true, ◌+◌, ◌<◌, ◌==◌, List, [], ◌∷◌, ◌++◌, ◌≡◌, ◌⊎◌, nat_le, length, drop, replicate, Some}
use Rattle.std.specs.List.{prefix_len}
use Rattle.markdown_scanners_tree.specs.Ascii.{backslash, space}
use Rattle.markdown_scanners_tree.specs.Bytes.{line_ending}
use Rattle.markdown_inlines.specs.declared.line_breaks.LineBreak.{LineBreak}

-- What stands before a line ending makes the break hard: a backslash, or two or more spaces. With one space or none it
-- is soft.
abbrev pub IsBeforeEnding : List ℕ → Bool → Type 0
IsBeforeEnding before is_hard =
    ((before ≡ backslash ∷ []) × (is_hard ≡ true))
    ⊎ ((before ≡ replicate (length before) space) × (is_hard ≡ nat_le 2 (length before)))

-- A line break stands at the front of the text: a line ending, with the spaces at the end of its line and at the
-- beginning of the next. The block does not end with it.
pub record IsLineBreak (text : List ℕ) (break : LineBreak) : Type 0 where
  pub before : List ℕ
  pub after : List ℕ
  pub ending : ℕ
  pub parts : text ≡ before ++ after
  pub is_before : IsBeforeEnding before break.is_hard
  pub ends : line_ending after ≡ Some ending
  pub counted : break.len ≡ length before + ending + prefix_len (λ b. b == space) (drop ending after)
  pub goes_on : break.len < length text
