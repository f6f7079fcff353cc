-- CommonMark 0.31.2, section 4.5, fenced code blocks: the fences.
use Rattle.std.specs.Prelude.{ℕ, Bool, not, List, [], ◌∷◌, ◌++◌, ◌≡◌, ◌==◌, ◌||◌, ◌+◌, ◌≤◌, length, Some, IsTrue, take_while}
use Rattle.std.specs.List.{list_all, list_any}
use Rattle.markdown_scanners_tree.specs.Ascii.{backtick, tilde}
use Rattle.markdown_scanners_tree.specs.Bytes.{is_space_or_tab, line_ending}
use Rattle.markdown_scanners_tree.specs.scanners.Lines.{IsRunOf, is_no_line_feed}

-- a backtick or `~`
abbrev pub is_fence_byte : ℕ → Bool
is_fence_byte b = b == backtick || b == tilde

-- a backtick stands before the first LF
abbrev pub has_backtick_in_line : List ℕ → Bool
has_backtick_in_line bytes = list_any (λ b. b == backtick) (take_while is_no_line_feed bytes)

-- An opening code fence: three or more backticks with no further one in the line, or three or more
-- `~`. (A line ends at LF here.)
pub record IsCodeFence (bytes : List ℕ) (n byte : ℕ) : Type 0 where
  pub run : List ℕ
  pub rest : List ℕ
  pub of_fence_byte : IsTrue (is_fence_byte byte)
  pub is_run : IsRunOf byte bytes run rest
  pub at_least_three : 3 ≤ length run
  pub no_further_backtick : byte ≡ backtick → IsTrue (not (has_backtick_in_line rest))
  pub counted : n ≡ length run

-- A closing fence: a run of at least `least` of the byte, then spaces and tabs up to the line's
-- end. It has n bytes, without the line ending.
pub record IsFenceClose (bytes : List ℕ) (byte least n : ℕ) : Type 0 where
  pub run : List ℕ
  pub rest : List ℕ
  pub space : List ℕ
  pub after : List ℕ
  pub is_run : IsRunOf byte bytes run rest
  pub long_enough : least ≤ length run
  pub parts : rest ≡ space ++ after
  pub spaces : IsTrue (list_all is_space_or_tab space)
  pub ending : ℕ
  pub ends : line_ending after ≡ Some ending
  pub counted : n ≡ length run + length space

-- a closing fence, or the end of the text, which closes each code block
abbrev pub IsClosingCodeFence : List ℕ → ℕ → ℕ → ℕ → Type 0
IsClosingCodeFence [] byte least n = n ≡ 0
IsClosingCodeFence (b ∷ bs) byte least n = IsFenceClose (b ∷ bs) byte least n
