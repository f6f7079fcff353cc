-- What one call answers and takes on a rest of a line whose head has no tab.
-- (CommonMark 0.31.2, sections 2.2, 5.1 and 5.2)
use Rattle.std.specs.Prelude.{ℕ, ◌≡◌, true, false, ◌==◌, nat_le, nat_lt, List, [], ◌∷◌, ◌+◌, drop, min, Option, Some, None, if◌then◌else◌}
use Rattle.markdown_scanners_tree.specs.Ascii.{colon, greater_than_sign}
use Rattle.markdown_scanners_tree.specs.Bytes.{is_at_line_end, is_blank}
use Rattle.markdown_scanners_tree.specs.line.State.{LineState, leading_spaces, rest_of, columns_further}
use Rattle.markdown_scanners_tree.specs.scanners.list_items.ListMarker.{is_space_or_line_end, list_marker, Marker}
use Rattle.markdown_scanners_tree.specs.declared.line.run.LineAnswer.{LineAnswer}
use Rattle.markdown_scanners_tree.specs.declared.line.run.LineAnswer.TheVariants.{Flag, Count, List as ItemAnswer, Definition as DefinitionAnswer}
use Rattle.markdown_scanners_tree.specs.declared.line.run.LineCall.{LineCall}
use Rattle.markdown_scanners_tree.specs.declared.line.run.LineCall.TheVariants.{Space, Upto, Eol, Quote, List as ItemCall, Definition as DefinitionCall}

-- the answer of a call, and how many bytes of the rest it takes
pub record PlainStep : Type 0 where
  pub answer : LineAnswer
  pub taken : ℕ

-- at most n of the leading spaces (2.2)
abbrev pub spaces_within : ℕ → List ℕ → ℕ
spaces_within n r = min n (leading_spaces r)

-- a block quote marker: `>`, and a space after it where there is one (5.1)
abbrev pub quote_step : List ℕ → PlainStep
quote_step [] = record { answer = Flag false; taken = 0 }
quote_step (b ∷ r) =
    if b == greater_than_sign
    then record { answer = Flag true; taken = 1 + spaces_within 1 r }
    else record { answer = Flag false; taken = 0 }

-- how many of m spaces belong to a list marker, beside its own one: fewer than four, and none where
-- four or more stand (5.2, rules 1 and 2)
abbrev pub marker_spaces : ℕ → ℕ
marker_spaces m = if nat_lt m 4 then m else 0

-- a list item's marker at an indent: its one space, and where the rest is not blank the further
-- spaces that belong to it (5.2)
abbrev pub item_step_of : ℕ → List ℕ → Marker → PlainStep
item_step_of indent r m =
    let one = spaces_within 1 (drop m.width r) in
    let left = drop (m.width + one) r in
    let further = (if is_blank left then 0 else marker_spaces (leading_spaces left)) in
    record {
      answer = ItemAnswer (Some (m.delimiter, m.start, indent + m.width + 1 + further));
      taken = m.width + one + further;
    }

abbrev pub no_item : PlainStep
no_item = record { answer = ItemAnswer None; taken = 0 }

-- the same where a space or the line's end follows the marker, and where there is no marker
abbrev pub item_step_by : ℕ → List ℕ → Option Marker → PlainStep
item_step_by indent r None = no_item
item_step_by indent r (Some m) =
    if is_space_or_line_end (drop m.width r) then item_step_of indent r m else no_item

abbrev pub item_step : ℕ → List ℕ → PlainStep
item_step indent r = item_step_by indent r (list_marker r)

-- how many of m spaces belong to a definition's marker: one where five or more stand, else all
abbrev pub definition_spaces : ℕ → ℕ
definition_spaces m = if nat_le 5 m then 1 else m

-- a definition's marker at an indent: `:`, and the spaces that belong to it
abbrev pub definition_step : ℕ → List ℕ → PlainStep
definition_step indent [] = record { answer = DefinitionAnswer None; taken = 0 }
definition_step indent (b ∷ r) =
    if b == colon
    then (
    let spaces = definition_spaces (leading_spaces r) in
    record { answer = DefinitionAnswer (Some (indent + 1 + spaces)); taken = 1 + spaces }
    )
    else record { answer = DefinitionAnswer None; taken = 0 }

-- one call on a rest of a line
abbrev pub plain_step : LineCall → List ℕ → PlainStep
plain_step (Space n) r =
    record { answer = Flag (spaces_within n r == n); taken = spaces_within n r }
plain_step (Upto n) r = record { answer = Count (spaces_within n r); taken = spaces_within n r }
plain_step Eol r = record { answer = Flag (is_at_line_end r); taken = 0 }
plain_step Quote r = quote_step r
plain_step (ItemCall indent) r = item_step indent r
plain_step (DefinitionCall indent) r = definition_step indent r

-- from one state to the next: the call is one step on what is left of the line
pub record IsPlainStep (call : LineCall) (answer : LineAnswer) (old new : LineState) : Type 0 where
  pub answered : answer ≡ (plain_step call (rest_of old)).answer
  pub rest : rest_of new ≡ drop (plain_step call (rest_of old)).taken (rest_of old)
  pub moved : new ≡ columns_further (plain_step call (rest_of old)).taken old
