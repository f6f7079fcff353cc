-- Runs of calls on a line start, and what C learns of them. (CommonMark 0.31.2, section 2.2, tabs)
use Rattle.std.specs.Prelude.{ℕ, Bool, true, false, List, ◌≡◌, ◌≤◌, ◌<◌, ◌==◌, ◌++◌, Option, None, Some, not, nat_lt, drop, length, map, take, if◌then◌else◌}
use Rattle.std.specs.List.{list_all, prefix_len}
use Rattle.markdown_scanners_tree.specs.declared.line.run.LineAnswer.{LineAnswer}
use Rattle.markdown_scanners_tree.specs.declared.line.run.LineAnswer.TheVariants.{Flag, Count, List as ItemAnswer, Definition as DefinitionAnswer}
use Rattle.markdown_scanners_tree.specs.declared.line.run.LineCall.{LineCall}
use Rattle.markdown_scanners_tree.specs.declared.line.run.LineCall.TheVariants.{Space, Upto, Eol, Quote, List as ItemCall, Definition as DefinitionCall}
use Rattle.markdown_scanners_tree.specs.declared.line.run.LineStop.{LineStop}
use Rattle.markdown_scanners_tree.specs.declared.line.run.LineStop.TheVariants.{SpacePending, IndentTooLarge}
use Rattle.markdown_scanners_tree.specs.line.State.{IsLineState, rest_of}
use Rattle.markdown_scanners_tree.specs.line.run.PlainRun.{PlainRun, rest_after, scanned_after}
use Rattle.markdown_scanners_tree.specs.line.run.StateRun.{StateRun, state_run}
use Rattle.markdown_scanners_c.specs.LineStarts.{known_breaks, state_on}
use Rattle.markdown_scanners_c.specs.Status.{ok, too_large, space_pending}
use Rattle.markdown_scanners_c.specs.declared.line_runs.Call.{Call}
use Rattle.markdown_scanners_c.specs.declared.line_runs.Answer.{Answer}
use Rattle.markdown_scanners_c.specs.declared.line_runs.LineEnds.{LineEnds}
use Rattle.markdown_scanners_c.specs.declared.line_starts.Start.{Start}

-- a number of `enum mds_line_call_kind`
abbrev pub is_known : Call → Bool
is_known call = nat_lt call.kind 6

-- the call of this kind
abbrev pub line_call : Call → LineCall
line_call call =
    if call.kind == 0 then Space call.number
    else if call.kind == 1 then Upto call.number
    else if call.kind == 2 then Eol
    else if call.kind == 3 then Quote
    else if call.kind == 4 then ItemCall call.number
    else DefinitionCall call.number

-- an answer as C gets it
abbrev pub answer_of : LineAnswer → Answer
answer_of (Flag flag) = record { found = flag; delimiter = 0; start = 0; number = 0 }
answer_of (Count n) = record { found = true; delimiter = 0; start = 0; number = n }
answer_of (ItemAnswer None) = record { found = false; delimiter = 0; start = 0; number = 0 }
answer_of (ItemAnswer (Some r)) = record { found = true; delimiter = r.0; start = r.1; number = r.2 }
answer_of (DefinitionAnswer None) = record { found = false; delimiter = 0; start = 0; number = 0 }
answer_of (DefinitionAnswer (Some n)) = record { found = true; delimiter = 0; start = 0; number = n }

-- why a call is refused
abbrev pub stop_status : LineStop → ℕ
stop_status SpacePending = space_pending
stop_status IndentTooLarge = too_large

-- why a run stops before its last call, if it does
abbrev pub run_status : Option LineStop → ℕ
run_status None = ok
run_status (Some stop) = stop_status stop

-- a status, and no call was made
abbrev pub no_run : ℕ → LineEnds
no_run status = record { status = status; count = 0 }

-- Calls are made: from a line start on these bytes, each of a known kind, with room for an answer of each.
abbrev pub CanRun : List ℕ → Start → List Call → List Answer → Type 0
CanRun bytes start calls answers =
    IsLineState (state_on bytes start) × (list_all is_known calls ≡ true) × (length calls ≤ length answers)

-- the run of the calls from the line start on
abbrev pub run_at : List ℕ → Start → List Call → StateRun
run_at bytes start calls = state_run (state_on bytes start) (known_breaks start) (map line_call calls)

-- These answers stand at the front of the buffer, whose others are as they were, and how many they are and why no more
-- calls were made is returned.
abbrev pub AreAnswers : List LineAnswer → Option LineStop → List Answer → List Answer → LineEnds → Type 0
AreAnswers made stop old new ends =
    (ends.status ≡ run_status stop) × (ends.count ≡ length made)
    × (new ≡ map answer_of made ++ drop (length made) old)

-- A run is returned, and the line start is where it stopped.
pub record IsRun (bytes : List ℕ) (run : StateRun) (new : Start) (old_answers new_answers : List Answer)
    (ends : LineEnds) : Type 0 where
  pub answers : AreAnswers run.answers run.stop old_answers new_answers ends
  pub state : state_on bytes new ≡ run.state
  pub known : known_breaks new ≡ run.known

-- how many calls come before the first of MDS_LIST, the one kind whose answer rests on what is known of thematic breaks
abbrev pub calls_before_list : List Call → ℕ
calls_before_list = prefix_len (λ call. not (call.kind == 4))

-- The run does not stop before the first call of MDS_LIST, and makes it.
abbrev pub MakesList : List Call → StateRun → Type 0
MakesList calls run = calls_before_list calls < length run.answers

-- So many answers of a run stand at the front of the buffer, and the call after them is made too.
pub record IsRunTo (count : ℕ) (run : StateRun) (answers : List Answer) (ends : LineEnds) : Type 0 where
  pub front : take count answers ≡ map answer_of (take count run.answers)
  pub made : count < ends.count

-- the front of a line
abbrev pub IsFront : Start → Type 0
IsFront start =
    (start.offset ≡ 0) × (start.pending ≡ 0) × (start.phase ≡ 0) × (start.none_before ≡ 0) × (start.after_break ≡ 0)

-- A run on the line with its tabs written out is returned, and what is left of the line is what it leaves.
pub record IsLineRun (bytes : List ℕ) (run : PlainRun) (new : Start) (old_answers new_answers : List Answer)
    (ends : LineEnds) : Type 0 where
  pub answers : AreAnswers run.answers run.stop old_answers new_answers ends
  pub rest : rest_of (state_on bytes new) ≡ rest_after bytes run
  pub scanned : new.offset ≡ scanned_after bytes run
