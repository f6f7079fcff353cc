-- Emphasis, strong emphasis and strikethrough among the delimiter runs of a text. (CommonMark 0.31.2, section 6.2, and "Parsing
-- strategy", phase 2, "process emphasis"; GitHub Flavored Markdown 0.29, section 6.5)
use Rattle.std.specs.Prelude.{ℕ, zero, suc, Bool, ◌&&◌, ◌||◌, ◌==◌, not, ◌%◌, ◌+◌}
use Rattle.std.specs.Prelude.{◌-◌, min, nat_le, List, [], ◌∷◌, ◌++◌, Option, Some, None, if◌then◌else◌}
use Rattle.markdown_scanners_tree.specs.Ascii.{tilde}
use Rattle.markdown_inlines.specs.declared.delimiter_runs.DelimiterRun.{DelimiterRun}
use Rattle.markdown_inlines.specs.declared.emphasis.Delimiters.{Delimiters}
use Rattle.markdown_inlines.specs.declared.emphasis.Emphasis.{Emphasis}

-- how many delimiters of a run are left
abbrev pub left : Delimiters → ℕ
left delimiters = delimiters.end - delimiters.start

abbrev pub is_multiple_of_three : ℕ → Bool
is_multiple_of_three n = n % 3 == 0

-- If one of the two runs can both open and close, then the sum of their lengths must not be a multiple of 3, unless both lengths
-- are. (rules 9 and 10)
abbrev pub breaks_three : DelimiterRun → DelimiterRun → Bool
breaks_three opener closer =
    (opener.can_close || closer.can_open) && is_multiple_of_three (opener.count + closer.count)
    && not (is_multiple_of_three opener.count && is_multiple_of_three closer.count)

-- Strikethrough is text in a matching pair of one or two tildes; three or more create none. (GitHub Flavored Markdown 0.29, 6.5)
abbrev pub are_pair : DelimiterRun → DelimiterRun → Bool
are_pair opener closer = opener.count == closer.count && nat_le closer.count 2

-- an opener fits a closer of the same delimiter: of tildes as a pair, of the others by the rule above
abbrev pub fits : DelimiterRun → DelimiterRun → Bool
fits closer opener =
    opener.byte == closer.byte && (if closer.byte == tilde then are_pair opener closer else not (breaks_three opener closer))

-- of the openers, the innermost first, the first that fits the closer, and those around it
abbrev pub nearest : DelimiterRun → List Delimiters → Option (Delimiters × List Delimiters)
nearest closer [] = None
nearest closer (opener ∷ outer) = if fits closer opener.run then Some (opener, outer) else nearest closer outer

-- an opener and a closer make strong emphasis where each has two delimiters left, else emphasis (rules 13 and 14); of a pair of
-- tildes all are used
abbrev pub used : Delimiters → Delimiters → ℕ
used opener closer = min 2 (min (left opener) (left closer))

abbrev pub made_of : Delimiters → Delimiters → Emphasis
made_of opener closer = record {
  opening = opener.end - used opener closer;
  closing = closer.start;
  count = used opener closer;
  byte = closer.run.byte;
}

-- the openers that are left then: those around it, and itself with the delimiters that are left of it
abbrev pub openers_left : Delimiters → ℕ → List Delimiters → List Delimiters
openers_left opener count outer = if left opener == count then outer else record opener { end = opener.end - count } ∷ outer

abbrev pub closer_left : Delimiters → ℕ → Delimiters
closer_left closer count = record closer { start = closer.start + count }

-- what a closer ends: the emphasis in order, the innermost first, the openers that are left then, and what is left of the closer
pub record Ended : Type 0 where
  pub emphasis : List Emphasis
  pub openers : List Delimiters
  pub closer : Delimiters

abbrev pub none_ended : Delimiters → List Delimiters → Ended
none_ended closer openers = record { emphasis = []; openers = openers; closer = closer }

abbrev pub with_first : Emphasis → Ended → Ended
with_first emphasis more = record more { emphasis = emphasis ∷ more.emphasis }

-- the nearest opener for a closer that has delimiters left
abbrev pub opener_for : Delimiters → List Delimiters → Option (Delimiters × List Delimiters)
opener_for closer openers = if left closer == 0 then None else nearest closer.run openers

-- A closer ends emphasis with the nearest opener that fits, and so on with what is left of it; this in so many steps at most.
abbrev pub ended_by : ℕ → Delimiters → List Delimiters → Ended
ended_by zero closer openers = none_ended closer openers
ended_by (suc n) closer openers =
    elim (opener_for closer openers) [
      | None ↦ none_ended closer openers
      | Some found ↦ with_first (made_of found.0 closer)
          (ended_by n (closer_left closer (used found.0 closer)) (openers_left found.0 (used found.0 closer) found.1))
    ]

-- a run that can close is a closer of the openers before it; each step uses at least one of its delimiters
abbrev pub ended : Delimiters → List Delimiters → Ended
ended run openers = ended_by (if run.run.can_close then left run else 0) run openers

-- what is left of a run is an opener for those after it, if it can be one
abbrev pub opened : Delimiters → List Delimiters → List Delimiters
opened run openers = if run.run.can_open && not (left run == 0) then run ∷ openers else openers

-- the emphasis among runs, one after another, with these openers before them
abbrev pub emphasis_from : List Delimiters → List Delimiters → List Emphasis
emphasis_from openers [] = []
emphasis_from openers (run ∷ later) =
    (ended run openers).emphasis ++ emphasis_from (opened (ended run openers).closer (ended run openers).openers) later

-- the emphasis of a text with these delimiter runs
abbrev pub emphasis_of : List Delimiters → List Emphasis
emphasis_of runs = emphasis_from [] runs
