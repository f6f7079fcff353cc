-- Where a next line begins, runs of one byte, and block quote markers.
use Rattle.std.specs.Prelude.{ℕ, Bool, not, List, ◌∷◌, ◌++◌, ◌≡◌, ◌==◌, ◌+◌, length, min, IsTrue, if◌then◌else◌}
use Rattle.std.specs.List.{list_all, prefix_len}
use Rattle.markdown_scanners_tree.specs.Ascii.{line_feed, space, greater_than_sign}
use Rattle.markdown_scanners_tree.specs.Bytes.{begins_with}

-- a byte other than LF
abbrev pub is_no_line_feed : ℕ → Bool
is_no_line_feed b = not (b == line_feed)

-- the offset after the first LF, or the length where there is none
abbrev pub next_line : List ℕ → ℕ
next_line bytes = min (length bytes) (prefix_len is_no_line_feed bytes + 1)

-- A run of the byte stands at the front, and no further byte of it follows.
pub record IsRunOf (byte : ℕ) (bytes run rest : List ℕ) : Type 0 where
  pub parts : bytes ≡ run ++ rest
  pub all : IsTrue (list_all (λ b. b == byte) run)
  pub longest : IsTrue (not (begins_with (λ b. b == byte) rest))

-- CommonMark 0.31.2, section 5.1, block quote marker: `>`, with the space that follows it.
pub record IsBlockQuoteStart (bytes : List ℕ) (n : ℕ) : Type 0 where
  pub rest : List ℕ
  pub parts : bytes ≡ greater_than_sign ∷ rest
  pub counted : n ≡ (if begins_with (λ b. b == space) rest then 2 else 1)
