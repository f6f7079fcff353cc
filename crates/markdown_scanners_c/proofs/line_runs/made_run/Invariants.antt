use Rattle.std.proofs.Common.{List, ◌≡◌, ◌≤◌, ◌<◌, ◌++◌, drop, length, map}
use Rattle.markdown_scanners_tree.specs.line.KnownBreaks.{AreTrueBreaks}
use Rattle.markdown_scanners_tree.specs.line.run.StateRun.{after_answers, state_run}
use Rattle.markdown_scanners_tree.specs.declared.line.run.LineAnswer.{LineAnswer}
use Rattle.markdown_scanners_c.specs.LineRuns.{answer_of, calls_before_list, line_call}
use Rattle.markdown_scanners_c.specs.private.SureRun.{IsMadeTo, IsSure}
use Rattle.markdown_scanners_c.proofs.line_runs.made_run.Given as goal

-- The answers so far stand at the front of the buffer; where what was known is true, and up to the first MDS_LIST, the
-- run is these and that of the calls to come.
abbrev pub invariant-loop-index : goal.invariant-loop-index
invariant-loop-index l =
    (made : List LineAnswer) × (length made ≡ l.index)
    × (l.answers ≡ map answer_of made ++ drop l.index l.fn.answers)
    × (l.line.bytes ≡ l.fn.line.bytes) × (l.fn.line.offset ≤ l.line.offset)
    × (AreTrueBreaks l.fn.line.bytes l.fn.breaks l.fn.line.offset → AreTrueBreaks l.line.bytes l.breaks l.line.offset)
    × (IsSure l.fn.line l.fn.breaks l.calls l.index
    → state_run l.fn.line l.fn.breaks (map line_call l.calls)
    ≡ after_answers made (state_run l.line l.breaks (map line_call (drop l.index l.calls))))
    × (calls_before_list l.calls < l.index
    → IsMadeTo (calls_before_list l.calls) (state_run l.fn.line l.fn.breaks (map line_call l.calls)) l.answers)
