-- What both passes over a label need of a handler, to which the conditions on callers come.
use Rattle.std.specs.Prelude.{ℕ, List, ◌≡◌, ◌≤◌, ◌+◌, length, drop, Option}
use Rattle.std.specs.Fn.{FnReturnsAt, Shared}
use Rattle.std.specs.Str.{IsCharBoundary}
use denote.Ref.{Bor}
use Rattle.markdown_scanners_tree.specs.Handler.{IsAfterLineEnding, Skips}

-- after each line ending of the bytes one answer, and so many bytes are there
pub record IsSteadyAfterLines {F : Type 0} (g : Shared F (Bor (List ℕ) × Unit {0}) (Option ℕ)) (f : F)
    (bytes : List ℕ) : Type 0 where
  pub one_answer : (rest : List ℕ) (a b : Option ℕ) → IsAfterLineEnding bytes rest
      → FnReturnsAt g f rest a → FnReturnsAt g f rest b → a ≡ b
  pub inside : (rest : List ℕ) (skip : ℕ) → IsAfterLineEnding bytes rest → Skips g f rest skip → skip ≤ length rest

-- what is skipped in a text at the front of the bytes ends between two of its characters
pub record EndsAtChars {F : Type 0} (g : Shared F (Bor (List ℕ) × Unit {0}) (Option ℕ)) (f : F)
    (bytes text : List ℕ) : Type 0 where
  pub at : (offset skip : ℕ) → IsCharBoundary text offset → Skips g f (drop offset bytes) skip
      → offset + skip ≤ length text → IsCharBoundary text (offset + skip)
