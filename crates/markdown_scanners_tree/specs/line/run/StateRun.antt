-- A list of calls from a line start on, wherever it stands, one plain step after the other.
-- (CommonMark 0.31.2, section 2.2, tabs)
use Rattle.std.specs.Prelude.{◌==◌, ◌++◌, Bool, true, false, List, [], ◌∷◌, Option, Some, None}
use Rattle.markdown_scanners_tree.specs.line.KnownBreaks.{learnt_by_marker}
use Rattle.markdown_scanners_tree.specs.line.PlainStep.{plain_step}
use Rattle.markdown_scanners_tree.specs.line.State.{LineState, columns_further, rest_of}
use Rattle.markdown_scanners_tree.specs.line.run.PlainRun.{line_refusal}
use Rattle.markdown_scanners_tree.specs.declared.line.known_breaks.KnownBreaks.{KnownBreaks}
use Rattle.markdown_scanners_tree.specs.declared.line.run.LineAnswer.{LineAnswer}
use Rattle.markdown_scanners_tree.specs.declared.line.run.LineCall.{LineCall}
use Rattle.markdown_scanners_tree.specs.declared.line.run.LineCall.TheVariants.{List as ItemCall}
use Rattle.markdown_scanners_tree.specs.declared.line.run.LineStop.{LineStop}

-- a call that asks for the thematic breaks in the line: that for a list marker alone
abbrev pub asks_for_breaks : LineCall → Bool
asks_for_breaks (ItemCall _) = true
asks_for_breaks _ = false

-- what is known of the thematic breaks after a call from a state: a list marker alone tells of them
abbrev pub learnt_by_call : LineCall → LineState → KnownBreaks → KnownBreaks
learnt_by_call (ItemCall _) s known = learnt_by_marker s.bytes s.offset known
learnt_by_call _ s known = known

-- the answers, the state that is reached and what is known of the breaks there, and why the next call
-- is refused, if one is
pub record StateRun : Type 0 where
  pub answers : List LineAnswer
  pub state : LineState
  pub known : KnownBreaks
  pub stop : Option LineStop

-- a run with an answer before it
abbrev pub before_run : LineAnswer → StateRun → StateRun
before_run a run = record run { answers = a ∷ run.answers }

-- a run with these answers before it
abbrev pub after_answers : List LineAnswer → StateRun → StateRun
after_answers made run = record run { answers = made ++ run.answers }

-- The calls in order from a state: each is one step on what is left of the line, its tabs written out
-- (2.2).
abbrev pub state_run : LineState → KnownBreaks → List LineCall → StateRun
state_run s known [] = record { answers = []; state = s; known = known; stop = None }
state_run s known (call ∷ calls) =
    elim (line_refusal (s.pending == 0) call) [
      | Some stop ↦ record { answers = []; state = s; known = known; stop = Some stop }
      | None ↦ (
          let step = plain_step call (rest_of s) in
          before_run step.answer
          (state_run (columns_further step.taken s) (learnt_by_call call s known) calls)
          )
    ]
