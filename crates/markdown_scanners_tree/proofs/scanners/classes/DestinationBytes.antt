-- What it says of a byte that it is one of a bare destination.
use Rattle.std.proofs.Common.{◌≡◌, ℕ, ◌<◌, ◌==◌, ◌≢◌, not, nat_lt, true, false, refl}
use Rattle.std.proofs.lemmas.Bool.{and_parts, ltb-true}
use Rattle.markdown_scanners_tree.specs.Ascii.{space, left_parenthesis, right_parenthesis, backslash}
use Rattle.markdown_scanners_tree.specs.scanners.classes.private.InDestination.{is_in_destination}

-- a byte above space that neither nests nor escapes
pub record IsPlain (b : ℕ) : Type 0 where
  pub high : space < b
  pub no_open : b ≢ left_parenthesis
  pub no_close : b ≢ right_parenthesis
  pub no_escape : b ≢ backslash

pub in_destination : (b : ℕ) → is_in_destination b ≡ true → IsPlain b
in_destination b is =
    let parts = and_parts (nat_lt 32 b) _ is in
    let open_parts = and_parts (not (b == 40)) _ parts.1 in
    let close_parts = and_parts (not (b == 41)) (not (b == 92)) open_parts.1 in record {
      high = ltb-true 32 b parts.0;
      no_open = λ same. (let no : not (b == 40) ≡ false = rw same refl in cc);
      no_close = λ same. (let no : not (b == 41) ≡ false = rw same refl in cc);
      no_escape = λ same. (let no : not (b == 92) ≡ false = rw same refl in cc);
    }
