-- The state that a tag scanner has of the bytes that it has read: what they end in.
-- (CommonMark 0.31.2, section 6.6, raw HTML)
use Rattle.std.specs.Prelude.{ℕ, Bool, true, false, ◌||◌, ◌&&◌, ◌==◌, ◌≡◌, ◌<◌, ◌≤◌, not, nat_le, List, [], ◌∷◌, slice_index, if◌then◌else◌}
use Rattle.markdown_scanners_tree.specs.Ascii.{line_feed, carriage_return, quotation_mark, apostrophe, slash, less_than_sign, equals_sign, greater_than_sign}
use Rattle.markdown_scanners_tree.specs.Bytes.{begins_with, is_letter, is_line_ending, is_unquoted, is_white_space, is_white_space_in_line}
use Rattle.markdown_scanners_tree.specs.scanners.html_tag.HtmlTag.{is_tag_name_byte, is_attribute_start, is_attribute_byte}
use Rattle.markdown_scanners_tree.specs.declared.scanners.tag_state.TagState.{TagState}
use Rattle.markdown_scanners_tree.specs.declared.scanners.tag_state.TagState.TheVariants.{Start, Opened, Name, Spaced, AttributeName, AfterName, BeforeValue, Unquoted, Quoted, AfterValue}
use Rattle.markdown_scanners_tree.specs.declared.scanners.tag_state.TagState.TheVariants.{Slashed, Open, Closing, ClosingName, ClosingSpaced, ClosingReturned, ClosingEnded, Closed, Refused}

-- after a name or a value, where the byte belongs to neither
abbrev pub after_part : ℕ → TagState
after_part b =
    if is_white_space b then Spaced
    else if b == slash then Slashed
    else if b == greater_than_sign then Open
    else Refused

-- after an attribute name, where the byte begins and continues none
abbrev pub after_attribute_name : ℕ → TagState
after_attribute_name b =
    if is_white_space b then AfterName
    else if b == equals_sign then BeforeValue
    else after_part b

-- where a value must begin
abbrev pub before_value : ℕ → TagState
before_value b =
    if is_white_space b then BeforeValue
    else if is_unquoted b then Unquoted
    else if b == apostrophe then Quoted apostrophe
    else if b == quotation_mark then Quoted quotation_mark
    else Refused

-- after the name of a closing tag, where the byte does not belong to it
abbrev pub after_closing_name : ℕ → TagState
after_closing_name b =
    if is_white_space_in_line b then ClosingSpaced
    else if b == carriage_return then ClosingReturned
    else if b == line_feed then ClosingEnded
    else if b == greater_than_sign then Closed
    else Refused

-- after one more byte
abbrev pub next_state : TagState → ℕ → TagState
next_state Start b = if b == less_than_sign then Opened else Refused
next_state Opened b = if is_letter b then Name else if b == slash then Closing else Refused
next_state Name b = if is_tag_name_byte b then Name else after_part b
next_state Spaced b = if is_attribute_start b then AttributeName else after_part b
next_state AttributeName b = if is_attribute_byte b then AttributeName else after_attribute_name b
next_state AfterName b = if is_attribute_start b then AttributeName else after_attribute_name b
next_state BeforeValue b = before_value b
next_state Unquoted b = if is_unquoted b then Unquoted else after_part b
next_state (Quoted quote) b = if b == quote then AfterValue else Quoted quote
next_state AfterValue b = after_part b
next_state Slashed b = if b == greater_than_sign then Open else Refused
next_state Closing b = if is_letter b then ClosingName else Refused
next_state ClosingName b = if is_tag_name_byte b then ClosingName else after_closing_name b
next_state ClosingSpaced b = after_closing_name b
next_state ClosingReturned b =
    if is_white_space_in_line b || b == line_feed then ClosingEnded
    else if b == greater_than_sign then Closed
    else Refused
next_state ClosingEnded b =
    if is_white_space_in_line b then ClosingEnded
    else if b == greater_than_sign then Closed
    else Refused
next_state Open b = Refused
next_state Closed b = Refused
next_state Refused b = Refused

-- after these bytes
abbrev pub state_after : TagState → List ℕ → TagState
state_after state [] = state
state_after state (b ∷ bs) = state_after (next_state state b) bs

-- No byte leads further from here.
abbrev pub is_final : TagState → Bool
is_final Open = true
is_final Closed = true
is_final Refused = true
is_final _ = false

-- The bytes lead from one state to another, with no line ending among them and no byte after a
-- final state.
abbrev pub LeadsTo : TagState → List ℕ → TagState → Type 0
LeadsTo from [] to = from ≡ to
LeadsTo from (b ∷ bs) to =
    (is_final from ≡ false) × (is_line_ending b ≡ false) × LeadsTo (next_state from b) bs to

-- the bytes that a tag begins with lead to a state
abbrev pub BeginsWith : List ℕ → TagState → Type 0
BeginsWith = LeadsTo Start

-- Each byte from one offset up to another keeps the state, and ends no line.
abbrev pub AllKeep : TagState → List ℕ → ℕ → ℕ → Type 0
AllKeep state bytes from to =
    (i : ℕ) → from ≤ i → i < to
    → (next_state state (slice_index bytes i) ≡ state) × (is_line_ending (slice_index bytes i) ≡ false)

-- a byte of a value in this quote that ends no line
abbrev pub is_quoted_in_line : ℕ → ℕ → Bool
is_quoted_in_line quote b = not (b == quote) && not (is_line_ending b)

-- A tag is whole: an open tag, or a closing tag with at most one line ending of the source.
abbrev pub is_tag_end : TagState → ℕ → Bool
is_tag_end Open endings = true
is_tag_end Closed endings = nat_le endings 1
is_tag_end _ endings = false

-- A line of the source ends with the first of the bytes: it is LF, or a CR that no LF follows.
abbrev pub ends_source_line : List ℕ → Bool
ends_source_line [] = false
ends_source_line (b ∷ bs) =
    b == line_feed || (b == carriage_return && not (begins_with (λ c. c == line_feed) bs))
