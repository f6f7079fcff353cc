-- Lines that are whole, whatever bytes follow. (CommonMark 0.31.2, section 2.1, characters and lines)
use Rattle.std.specs.Prelude.{ℕ, suc, Bool, false, ◌||◌, ◌&&◌, ◌==◌, not, ◌≡◌, ◌≤◌, ◌<◌, List, [], ◌∷◌, length, drop, IsTrue}
use Rattle.markdown_scanners_tree.specs.Ascii.{line_feed, carriage_return}
use Rattle.markdown_scanners_tree.specs.Bytes.{begins_with}

-- a line ends with the first byte, whatever follows the bytes: it is LF, or a CR after which another byte stands than LF
abbrev pub surely_ends_line : List ℕ → Bool
surely_ends_line [] = false
surely_ends_line (b ∷ bs) =
    b == line_feed || (b == carriage_return && begins_with (λ c. not (c == line_feed)) bs)

-- so many bytes at the front of the text are all its lines that surely end
pub record AreWhole (text : List ℕ) (count : ℕ) : Type 0 where
  pub within : count ≤ length text
  pub ended : (offset : ℕ) → count ≡ suc offset → IsTrue (surely_ends_line (drop offset text))
  pub last : (offset : ℕ) → count ≤ offset → offset < length text → ¬ IsTrue (surely_ends_line (drop offset text))
