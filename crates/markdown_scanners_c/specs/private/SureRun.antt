-- A run on a line start call by call, where what is known of thematic breaks may be wrong. (CommonMark 0.31.2, section
-- 4.1)
use Rattle.std.specs.Prelude.{ℕ, List, ◌≡◌, ◌≤◌, ◌<◌, ◌⊎◌, length, map, take}
use Rattle.markdown_scanners_tree.specs.line.KnownBreaks.{AreTrueBreaks}
use Rattle.markdown_scanners_tree.specs.line.State.{LineState}
use Rattle.markdown_scanners_tree.specs.line.run.StateRun.{StateRun}
use Rattle.markdown_scanners_tree.specs.declared.line.known_breaks.KnownBreaks.{KnownBreaks}
use Rattle.markdown_scanners_c.specs.LineRuns.{answer_of, calls_before_list}
use Rattle.markdown_scanners_c.specs.declared.line_runs.Answer.{Answer}
use Rattle.markdown_scanners_c.specs.declared.line_runs.Call.{Call}

-- What is known is true of the line from the offset on, or the first calls, so many, have none of MDS_LIST among them.
abbrev pub IsSure : LineState → KnownBreaks → List Call → ℕ → Type 0
IsSure line breaks calls count = AreTrueBreaks line.bytes breaks line.offset ⊎ (count ≤ calls_before_list calls)

-- A run makes more calls than so many, and the answers of these stand at the front of the buffer.
pub record IsMadeTo (count : ℕ) (run : StateRun) (answers : List Answer) : Type 0 where
  pub made : count < length run.answers
  pub front : take count answers ≡ map answer_of (take count run.answers)
