-- Absolute URIs in angle brackets. (CommonMark 0.31.2, section 6.5, autolinks)
use Rattle.std.specs.Prelude.{ℕ, Bool, ◌&&◌, ◌||◌, ◌==◌, nat_lt, not, List, ◌∷◌, ◌++◌, ◌≡◌, ◌≤◌, length, IsTrue}
use Rattle.std.specs.List.{list_all}
use Rattle.markdown_scanners_tree.specs.Ascii.{plus_sign, hyphen, full_stop, colon, less_than_sign, greater_than_sign, space}
use Rattle.markdown_scanners_tree.specs.Bytes.{is_letter, is_alphanumeric}

-- a letter, a digit, `+`, `-` or `.`
abbrev pub is_scheme_byte : ℕ → Bool
is_scheme_byte b = is_alphanumeric b || b == plus_sign || b == hyphen || b == full_stop

-- above space, other than `<` and `>`
abbrev pub is_uri_byte : ℕ → Bool
is_uri_byte b = nat_lt space b && not (b == less_than_sign) && not (b == greater_than_sign)

-- A scheme: 2 to 32 bytes, a letter first.
pub record IsScheme (scheme : List ℕ) : Type 0 where
  pub first : ℕ
  pub others : List ℕ
  pub spelled : scheme ≡ first ∷ others
  pub letter : IsTrue (is_letter first)
  pub scheme_bytes : IsTrue (list_all is_scheme_byte others)
  pub at_least_one : 1 ≤ length others
  pub at_most_thirty_one : length others ≤ 31

-- The text begins with a scheme of n bytes and a colon.
pub record StartsWithScheme (text : List ℕ) (n : ℕ) : Type 0 where
  pub scheme : List ℕ
  pub rest : List ℕ
  pub parts : text ≡ scheme ++ colon ∷ rest
  pub is_scheme : IsScheme scheme
  pub n_is_length : n ≡ length scheme

-- The text begins with an absolute URI, a scheme, a colon and more bytes, which `>` ends.
pub record IsUriAutolink (text uri : List ℕ) : Type 0 where
  pub scheme : List ℕ
  pub address : List ℕ
  pub rest : List ℕ
  pub parts : text ≡ uri ++ greater_than_sign ∷ rest
  pub spelled : uri ≡ scheme ++ colon ∷ address
  pub is_scheme : IsScheme scheme
  pub uri_bytes : IsTrue (list_all is_uri_byte address)
