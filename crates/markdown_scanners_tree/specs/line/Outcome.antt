-- What the calls that look for a marker answer, and the state after them, from every state.
-- (CommonMark 0.31.2, sections 5.1 to 5.3)
use Rattle.std.specs.Prelude.{ℕ, Bool, true, false, ◌||◌, ◌&&◌, ◌==◌, nat_lt, List, [], ◌∷◌, ◌+◌, length, drop, Option, Some, None, if◌then◌else◌, take, codes}
use Rattle.std.specs.List.{prefix_len}
use Rattle.std.specs.Option.{option_map}
use Rattle.std.specs.Str.{bytes_eq, str_eq_ignore_ascii_case}
use Rattle.markdown_scanners_tree.specs.Ascii.{tab, space, colon, greater_than_sign, capital_x, left_bracket, right_bracket, small_x}
use Rattle.markdown_scanners_tree.specs.Bytes.{begins_with, is_white_space, is_white_space_in_line, is_at_line_end, is_blank, blank_line}
use Rattle.markdown_scanners_tree.specs.line.State.{LineState, unscanned, rest_of, leading_spaces, bytes_further, after_space}
use Rattle.markdown_scanners_tree.specs.scanners.list_items.ListMarker.{Marker, list_marker}
use Rattle.markdown_scanners_tree.specs.line.PlainStep.{marker_spaces, definition_spaces}
use Rattle.markdown_values.specs.declared.values.BlockQuoteKind.{BlockQuoteKind}
use Rattle.markdown_values.specs.declared.values.BlockQuoteKind.TheVariants.{Note, Tip, Important, Warning, Caution}

-- all spaces and tabs passed, byte by byte, and nothing pending (2.2)
abbrev pub after_all_space : LineState → LineState
after_all_space s =
    let n = prefix_len (λ b. b == space || b == tab) (unscanned s) in
    record (bytes_further n s) { pending = 0 }

-- a block quote marker: `>` and at most one column of space (5.1)
abbrev pub after_quote : LineState → LineState
after_quote s =
    if begins_with (λ b. b == greater_than_sign) (unscanned s)
    then after_space 1 (bytes_further 1 s)
    else s

-- an answer and the state after it
pub record Outcome (A : Type 0) : Type 0 where
  pub answer : Option A
  pub state : LineState

-- nothing found: the state stays
abbrev pub not_found : {A : Type 0} → LineState → Outcome A
not_found s = record { answer = None; state = s }

-- a definition's marker: `:` and one column of space where five or more stand, else all of them
abbrev pub definition_outcome : ℕ → LineState → Outcome ℕ
definition_outcome indent s =
    if begins_with (λ b. b == colon) (unscanned s)
    then (
    let after = bytes_further 1 s in
    let columns = definition_spaces (leading_spaces (rest_of after)) in
    record { answer = Some (indent + 1 + columns); state = after_space columns after }
    )
    else not_found s

-- the further columns of space that belong to a list marker whose one column is taken: where more
-- than white space follows, those that are fewer than four (5.2, rules 1 to 3)
abbrev pub further_spaces : LineState → ℕ
further_spaces after =
    if is_blank (unscanned after) then 0 else marker_spaces (leading_spaces (rest_of after))

-- a list item's marker whose one column of space is taken, with the further columns
abbrev pub item_outcome_after : ℕ → Marker → LineState → Outcome (ℕ × ℕ × ℕ)
item_outcome_after indent m after =
    let further = further_spaces after in
    let content = indent + m.width + 1 + further in
    record { answer = Some (m.delimiter, m.start, content); state = after_space further after }

-- a column of space, pending or not, or the line's end at the offset
abbrev pub space_or_end_follows : LineState → Bool
space_or_end_follows s = nat_lt 0 (leading_spaces (rest_of s)) || is_at_line_end (unscanned s)

-- a list item's marker where one stands at the offset: the marker, then one column of space or the
-- line's end, then the further columns (5.2)
abbrev pub item_outcome_by : ℕ → LineState → Option Marker → Outcome (ℕ × ℕ × ℕ)
item_outcome_by indent s None = not_found s
item_outcome_by indent s (Some m) =
    let marked = bytes_further m.width s in
    if space_or_end_follows marked
    then item_outcome_after indent m (after_space 1 marked)
    else not_found s

abbrev pub item_outcome : ℕ → LineState → Outcome (ℕ × ℕ × ℕ)
item_outcome indent s = item_outcome_by indent s (list_marker (unscanned s))

-- `[`, white space that ends no line or `x` or `X`, `]`, and white space after it: whether it is
-- checked (GFM 0.29, section 5.3, task list items)
abbrev pub task_box : List ℕ → Option Bool
task_box (a ∷ b ∷ c ∷ d ∷ _) =
    if a == left_bracket && c == right_bracket && is_white_space d
    then (if is_white_space_in_line b then Some false
    else if b == small_x || b == capital_x then Some true
    else None)
    else None
task_box _ = None

abbrev pub task_outcome : LineState → Outcome Bool
task_outcome s =
    let after = after_space 3 s in
    elim (task_box (unscanned after)) [
      | Some checked ↦ record { answer = Some checked; state = bytes_further 3 after }
      | None ↦ not_found s
    ]

-- the name stands at the front, in any ASCII case, and `]` after it
abbrev pub is_alert_name : List ℕ → List ℕ → Bool
is_alert_name name bytes =
    str_eq_ignore_ascii_case (take (length name) bytes) name
    && begins_with (λ b. b == right_bracket) (drop (length name) bytes)

-- the alerts by their names (GitHub Docs, alerts)
abbrev pub alerts : List (List ℕ × BlockQuoteKind)
alerts =
    (codes "note", Note) ∷ (codes "tip", Tip) ∷ (codes "important", Important)
    ∷ (codes "warning", Warning) ∷ (codes "caution", Caution) ∷ []

-- the first of these alerts whose name and `]` stand at the front, and the length of both
abbrev pub alert_among : List (List ℕ × BlockQuoteKind) → List ℕ → Option (BlockQuoteKind × ℕ)
alert_among [] bytes = None
alert_among (alert ∷ others) bytes =
    if is_alert_name alert.0 bytes
    then Some (alert.1, length alert.0 + 1)
    else alert_among others bytes

abbrev pub alert_name : List ℕ → Option (BlockQuoteKind × ℕ)
alert_name = alert_among alerts

-- an alert's name that a blank rest of the line follows: which alert, and how many bytes from `[!`
-- to the next line
abbrev pub alert_before_blank : List ℕ → Option (BlockQuoteKind × ℕ) → Option (BlockQuoteKind × ℕ)
alert_before_blank bytes None = None
alert_before_blank bytes (Some alert) =
    option_map (λ rest. (alert.0, 2 + alert.1 + rest)) (blank_line (drop alert.1 bytes))

-- the line of an alert: `[!`, a name and `]`, alone in it
abbrev pub alert_line : List ℕ → Option (BlockQuoteKind × ℕ)
alert_line bytes =
    if bytes_eq (take 2 bytes) (codes "[!")
    then alert_before_blank (drop 2 bytes) (alert_name (drop 2 bytes))
    else None

-- the line of an alert is passed, each byte as one column
abbrev pub alert_outcome : LineState → Outcome BlockQuoteKind
alert_outcome s =
    elim (alert_line (unscanned s)) [
      | Some alert ↦ record { answer = Some alert.0; state = bytes_further alert.1 s }
      | None ↦ not_found s
    ]
