-- Email addresses in angle brackets. (CommonMark 0.31.2, section 6.5, autolinks)
use Rattle.std.specs.Prelude.{ℕ, Bool, ◌&&◌, ◌||◌, ◌==◌, ◌-◌, nat_le, not, List, [], ◌∷◌, ◌++◌, ◌≡◌, ◌≢◌, length}
use Rattle.std.specs.Prelude.{slice_index, codes, IsTrue}
use Rattle.std.specs.List.{list_all, list_any, slice_split}
use Rattle.std.specs.Char.{is_ascii_alphanumeric}
use Rattle.markdown_scanners_tree.specs.Ascii.{hyphen, full_stop, greater_than_sign}

abbrev pub at_sign : ℕ
at_sign = 64

-- an ASCII letter, a digit, or one of .!#$%&'*+/=?^_`{|}~-
abbrev pub is_local_byte : ℕ → Bool
is_local_byte b = is_ascii_alphanumeric b || list_any (λ c. c == b) (codes ".!#$%&'*+/=?^_`{|}~-")

-- an ASCII letter, a digit or a hyphen
abbrev pub is_label_byte : ℕ → Bool
is_label_byte b = is_ascii_alphanumeric b || b == hyphen

-- a label of a domain: 1 to 63 such bytes, of which neither the first nor the last is a hyphen
abbrev pub is_label : List ℕ → Bool
is_label label =
    nat_le 1 (length label) && nat_le (length label) 63 && not (slice_index label 0 == hyphen)
    && not (slice_index label (length label - 1) == hyphen) && list_all is_label_byte label

-- a byte of a domain: of a label, or a dot
abbrev pub is_domain_byte : ℕ → Bool
is_domain_byte b = is_label_byte b || b == full_stop

-- a domain: what stands between its dots, and at both ends, are labels
abbrev pub is_domain : List ℕ → Bool
is_domain domain = list_all is_label (slice_split (λ b. b == full_stop) domain)

-- The text begins with an email address, a local part, `@` and a domain, which `>` ends.
pub record IsEmailAutolink (text address : List ℕ) : Type 0 where
  pub local : List ℕ
  pub domain : List ℕ
  pub rest : List ℕ
  pub parts : text ≡ address ++ greater_than_sign ∷ rest
  pub spelled : address ≡ local ++ at_sign ∷ domain
  pub not_empty : local ≢ []
  pub local_bytes : IsTrue (list_all is_local_byte local)
  pub is_domain : IsTrue (is_domain domain)
