-- Bytes of a word that are read at once.
use Rattle.std.specs.Prelude.{ℕ, Bool, false, ◌&&◌, ◌==◌, not, List, ◌≡◌, ◌+◌, drop}
use Rattle.markdown_scanners_tree.specs.Bytes.{is_white_space}
use Rattle.markdown_scanners_tree.specs.Ascii.{left_bracket, backslash, right_bracket}
use Rattle.markdown_scanners_tree.specs.linklabel.private.NextPart.{IsWord}
use Rattle.markdown_scanners_tree.specs.linklabel.private.Pass.{starts_dropped}

-- the byte is no white space, bracket or backslash
abbrev pub is_ordinary : ℕ → Bool
is_ordinary b =
    not (is_white_space b) && (not (b == left_bracket) && (not (b == backslash) && not (b == right_bracket)))

-- a byte of a word stands at the front, and no cell of a table drops it
pub record IsKeptByte (is_in_table escaped : Bool) (rest : List ℕ) (byte : ℕ) (escapes : Bool) : Type 0 where
  pub word : IsWord escaped rest byte escapes
  pub kept : starts_dropped is_in_table rest ≡ false

-- so many of them stand there, and the last one escapes the next byte or does not
pub data IsRun (is_in_table escaped : Bool) (rest : List ℕ) : ℕ → Bool → Type 0 where
  none : IsRun is_in_table escaped rest 0 escaped
  more : (len byte : ℕ) (before escapes : Bool) → IsRun is_in_table escaped rest len before
      → IsKeptByte is_in_table before (drop len rest) byte escapes → IsRun is_in_table escaped rest (len + 1) escapes
