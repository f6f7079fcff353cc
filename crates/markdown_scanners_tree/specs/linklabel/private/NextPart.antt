-- What stands next in a label: at the front of the bytes that are left.
use Rattle.std.specs.Prelude.{ℕ, Bool, true, false, ◌&&◌, ◌==◌, not, List, [], ◌∷◌, ◌≡◌}
use Rattle.markdown_scanners_tree.specs.Bytes.{begins_with, is_line_ending, is_white_space, is_punctuation}
use Rattle.markdown_scanners_tree.specs.Ascii.{left_bracket, backslash, right_bracket}
use Rattle.markdown_scanners_tree.specs.Kept.{line_len}
use Rattle.markdown_scanners_tree.specs.declared.linklabel.write.NextPart.{NextPart}
use Rattle.markdown_scanners_tree.specs.declared.linklabel.write.NextPart.TheVariants.{End, Open, Close, Ending, Space, Word}

-- a bracket stands at the front, and no backslash before it escapes it
abbrev pub IsBracket : Bool → List ℕ → ℕ → Type 0
IsBracket escaped rest bracket = (escaped ≡ false) × ((others : List ℕ) × (rest ≡ bracket ∷ others))

-- a line ending stands at the front, and takes this many bytes
pub record IsEnding (rest : List ℕ) (len : ℕ) : Type 0 where
  pub byte : ℕ
  pub others : List ℕ
  pub parts : rest ≡ byte ∷ others
  pub ends : is_line_ending byte ≡ true
  pub takes : len ≡ line_len rest

-- white space that ends no line stands at the front
pub record IsSpace (rest : List ℕ) (byte : ℕ) : Type 0 where
  pub others : List ℕ
  pub parts : rest ≡ byte ∷ others
  pub white : is_white_space byte ≡ true
  pub no_ending : is_line_ending byte ≡ false

-- a byte of a word stands at the front, which may be a backslash that escapes the next one
pub record IsWord (escaped : Bool) (rest : List ℕ) (byte : ℕ) (escapes : Bool) : Type 0 where
  pub others : List ℕ
  pub parts : rest ≡ byte ∷ others
  pub not_white : is_white_space byte ≡ false
  pub no_close : escaped ≡ false → (byte == right_bracket) ≡ false
  pub no_open : escaped ≡ false → (byte == left_bracket) ≡ false
  pub escapes_is : escapes ≡ (not escaped && (byte == backslash && begins_with is_punctuation others))

-- what stands next, where the byte before it was or was not a backslash that escapes
abbrev pub IsNextPart : Bool → List ℕ → NextPart → Type 0
IsNextPart escaped rest End = rest ≡ []
IsNextPart escaped rest Open = IsBracket escaped rest left_bracket
IsNextPart escaped rest Close = IsBracket escaped rest right_bracket
IsNextPart escaped rest (Ending len) = IsEnding rest len
IsNextPart escaped rest (Space byte) = IsSpace rest byte
IsNextPart escaped rest (Word byte escapes) = IsWord escaped rest byte escapes
