-- A run of calls on a line as it is printed. (CommonMark 0.31.2, section 2.2, tabs)
use Rattle.std.specs.Prelude.{ℕ, List, Option}
use Rattle.markdown_scanners_tree.specs.line.run.PlainRun.{plain_run, indexed_stop, rest_after, scanned_after}
use Rattle.markdown_scanners_tree.specs.declared.line.run.LineAnswer.{LineAnswer}
use Rattle.markdown_scanners_tree.specs.declared.line.run.LineCall.{LineCall}
use Rattle.markdown_scanners_tree.specs.declared.line.run.LineRun.{LineRun}
use Rattle.markdown_scanners_tree.specs.declared.line.run.LineStop.{LineStop}

-- the answers, what is left of the line, the bytes scanned, and where the run stopped
pub record Run : Type 0 where
  pub answers : List LineAnswer
  pub rest : List ℕ
  pub scanned : ℕ
  pub stop : Option (ℕ × LineStop)

-- the run of the calls on the line
unfoldable pub run_of : List LineCall → List ℕ → Run
run_of calls line = record {
  answers = (plain_run line calls).answers;
  rest = rest_after line (plain_run line calls);
  scanned = scanned_after line (plain_run line calls);
  stop = indexed_stop (plain_run line calls);
}

-- the run as the library gives it
abbrev pub run_view : LineRun → Run
run_view run = record {
  answers = run.answers.items;
  rest = run.rest.items;
  scanned = run.scanned;
  stop = run.stop;
}
