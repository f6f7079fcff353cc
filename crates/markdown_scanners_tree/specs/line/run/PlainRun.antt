-- A list of calls on a line, as if its tabs were written out.
-- (CommonMark 0.31.2, section 2.2, tabs)
use Rattle.std.specs.Prelude.{ℕ, Bool, true, false, ◌&&◌, not, nat_le, List, [], ◌∷◌, ◌+◌, ◌-◌, ◌^◌, length, drop, Option, Some, None, if◌then◌else◌}
use Rattle.markdown_scanners_tree.specs.Columns.{expanded, is_on_byte, bytes_below}
use Rattle.markdown_scanners_tree.specs.line.PlainStep.{plain_step}
use Rattle.markdown_scanners_tree.specs.declared.line.run.LineAnswer.{LineAnswer}
use Rattle.markdown_scanners_tree.specs.declared.line.run.LineCall.{LineCall}
use Rattle.markdown_scanners_tree.specs.declared.line.run.LineCall.TheVariants.{Space, Upto, List as ItemCall, Definition as DefinitionCall}
use Rattle.markdown_scanners_tree.specs.declared.line.run.LineStop.{LineStop}
use Rattle.markdown_scanners_tree.specs.declared.line.run.LineStop.TheVariants.{SpacePending, IndentTooLarge}

-- the calls that only take space may be made at every column
abbrev pub takes_space : LineCall → Bool
takes_space (Space _) = true
takes_space (Upto _) = true
takes_space _ = false

-- the indent of a call leaves room for the columns that it may add
abbrev pub is_indent_small : LineCall → Bool
is_indent_small (ItemCall indent) = nat_le indent (2 ^ 64 - 17)
is_indent_small (DefinitionCall indent) = nat_le indent (2 ^ 64 - 17)
is_indent_small _ = true

-- why a call is refused, if it is, where a byte or the end of the head stands at the column that is
-- reached, or where none does
abbrev pub line_refusal : Bool → LineCall → Option LineStop
line_refusal on_byte call =
    if not (takes_space call) && not on_byte then Some SpacePending
    else if not (is_indent_small call) then Some IndentTooLarge
    else None

-- the answers, the column of the written out line that is reached, and why the next call is
-- refused, if one is
pub record PlainRun : Type 0 where
  pub answers : List LineAnswer
  pub column : ℕ
  pub stop : Option LineStop

-- a run with an answer before it
abbrev pub after_answer : LineAnswer → PlainRun → PlainRun
after_answer a run = record run { answers = a ∷ run.answers }

-- the calls in order from a column: each takes bytes of the written out line, so as many columns
-- (2.2)
abbrev pub run_from : List ℕ → ℕ → List LineCall → PlainRun
run_from line column [] = record { answers = []; column = column; stop = None }
run_from line column (call ∷ calls) =
    elim (line_refusal (is_on_byte 0 line column) call) [
      | Some stop ↦ record { answers = []; column = column; stop = Some stop }
      | None ↦ (
          let step = plain_step call (drop column (expanded line)) in
          after_answer step.answer (run_from line (column + step.taken) calls)
          )
    ]

abbrev pub plain_run : List ℕ → List LineCall → PlainRun
plain_run line calls = run_from line 0 calls

-- the stop with the index of the refused call, which is the number of the answers before it
abbrev pub indexed_stop : PlainRun → Option (ℕ × LineStop)
indexed_stop run = elim run.stop [ Some stop ↦ Some (length run.answers, stop) | None ↦ None ]

-- what a run leaves of the written out line
abbrev pub rest_after : List ℕ → PlainRun → List ℕ
rest_after line run = drop run.column (expanded line)

-- how many bytes of the line a run has passed
abbrev pub scanned_after : List ℕ → PlainRun → ℕ
scanned_after line run = bytes_below 0 line run.column
