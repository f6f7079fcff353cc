-- What a command comes to, and the words that its lines have in common.
use Rattle.std.specs.Prelude.{ℕ, Bool, List, [], ◌∷◌, ◌++◌, Option, None, Some, codes, if◌then◌else◌}
use Rattle.std.specs.Fmt.{decimal}
use Rattle.markdown_scanners_tree.specs.Ascii.{line_feed}

-- what is printed, and the status
pub record Outcome : Type 0 where
  pub printed : List ℕ
  pub status : ℕ

-- where the input is no text: nothing, and status 1
abbrev pub no_text : Outcome
no_text = record { printed = []; status = 1 }

-- a line of output
abbrev pub line_of : List ℕ → List ℕ
line_of text = text ++ line_feed ∷ []

-- `true` or `false`
abbrev pub flag_text : Bool → List ℕ
flag_text b = if b then codes "true" else codes "false"

-- a number, or `none`
abbrev pub number_text : Option ℕ → List ℕ
number_text None = codes "none"
number_text (Some n) = decimal n
