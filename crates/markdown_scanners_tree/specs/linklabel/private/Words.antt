-- Words with one space between, and escapes in them, which are read at once.
use Rattle.std.specs.Prelude.{ℕ, Bool, false, true, ◌||◌, ◌&&◌, ◌==◌, not, List, [], ◌∷◌, ◌≡◌, ◌≤◌, ◌<◌, ◌+◌, length, get_or}
use Rattle.markdown_scanners_tree.specs.Bytes.{is_punctuation}
use Rattle.markdown_scanners_tree.specs.Ascii.{space, backslash, vertical_line}
use Rattle.markdown_scanners_tree.specs.linklabel.private.Run.{is_ordinary}

-- a space stands at the front, and a word after it
abbrev pub joins_words : List ℕ → Bool
joins_words [] = false
joins_words (b ∷ []) = false
joins_words (b ∷ c ∷ bs) = b == space && is_ordinary c

-- a backslash before it escapes the byte, and where the two stand in a cell of a table, it drops
-- neither, whatever comes
abbrev pub stays_escaped : Bool → ℕ → Bool
stays_escaped is_in_table b = is_punctuation b && not (is_in_table && (b == backslash || b == vertical_line))

-- a backslash stands at the front, and such a byte after it
abbrev pub is_kept_escape : Bool → List ℕ → Bool
is_kept_escape is_in_table [] = false
is_kept_escape is_in_table (b ∷ []) = false
is_kept_escape is_in_table (b ∷ c ∷ bs) = b == backslash && stays_escaped is_in_table c

-- so many bytes at the front are words with one space between, or none
pub data AreWords (is_in_table : Bool) (bytes : List ℕ) : ℕ → Type 0 where
  none : AreWords is_in_table bytes 0
  byte : (n : ℕ) → AreWords is_in_table bytes n → n < length bytes → is_ordinary (get_or bytes n 0) ≡ true
      → AreWords is_in_table bytes (n + 1)
  gap : (n : ℕ) → AreWords is_in_table bytes n → 0 < n → n + 2 ≤ length bytes → get_or bytes n 0 ≡ space
      → is_ordinary (get_or bytes (n + 1) 0) ≡ true → AreWords is_in_table bytes (n + 2)
  escape : (n : ℕ) → AreWords is_in_table bytes n → n + 2 ≤ length bytes → get_or bytes n 0 ≡ backslash
      → stays_escaped is_in_table (get_or bytes (n + 1) 0) ≡ true → AreWords is_in_table bytes (n + 2)
