-- What the program prints, and the status that it ends with.
use Rattle.std.specs.Prelude.{ℕ, false, ◌≡◌, ◌/◌, ◌%◌, List, [], ◌∷◌, ◌++◌, Option, None, Some, codes, encode_utf8}
use Rattle.std.specs.List.{flat_map, zip}
use Rattle.std.specs.Fmt.{decimal, digit_glyph}
use Rattle.std.specs.Io.KnownBytes.{Appends}
use Rattle.markdown_scanners_tree.specs.declared.line.run.LineCall.{LineCall}
use Rattle.markdown_scanners_tree.specs.declared.line.run.LineCall.TheVariants as call
use Rattle.markdown_scanners_tree.specs.declared.line.run.LineAnswer.{LineAnswer}
use Rattle.markdown_scanners_tree.specs.declared.line.run.LineAnswer.TheVariants as answer
use Rattle.markdown_scanners_tree.specs.declared.line.run.LineStop.{LineStop}
use Rattle.markdown_scanners_tree.specs.declared.line.run.LineStop.TheVariants.{SpacePending, IndentTooLarge}
use Rattle.cmark_scan.specs.html.HtmlScans.{printed_scans}
use Rattle.cmark_scan.specs.label.LabelRun.{IsLabelOutcome}
use Rattle.cmark_scan.specs.printing.Outcome.{Outcome, line_of, flag_text, number_text}
use Rattle.cmark_scan.specs.printing.Run.{Run, run_of}
use Rattle.cmark_scan.specs.unescaping.Unescaped.{IsUnescaped}
use Rattle.cmark_scan.specs.words.Words.{Request, scan_line, scan_html, scan_unescape, scan_label}

-- a list marker as its delimiter, its number and the indent of its content
abbrev pub marker_text : Option (ℕ × ℕ × ℕ) → List ℕ
marker_text None = codes "none"
marker_text (Some m) = encode_utf8 m.0 ++ codes " " ++ decimal m.1 ++ codes " " ++ decimal m.2

abbrev pub answer_text : LineAnswer → List ℕ
answer_text (answer.Flag b) = flag_text b
answer_text (answer.Count n) = decimal n
answer_text (answer.List m) = marker_text m
answer_text (answer.Definition indent) = number_text indent

-- the word for a call
abbrev pub call_name : LineCall → List ℕ
call_name (call.Space n) = codes "space"
call_name (call.Upto n) = codes "upto"
call_name call.Eol = codes "eol"
call_name call.Quote = codes "quote"
call_name (call.List indent) = codes "list"
call_name (call.Definition indent) = codes "def"

-- a call and what it answered
abbrev pub answer_line : LineCall × LineAnswer → List ℕ
answer_line asked = line_of (call_name asked.0 ++ codes " " ++ answer_text asked.1)

-- a byte as two lower-case hexadecimal digits
abbrev pub hex_byte : ℕ → List ℕ
hex_byte b = digit_glyph false (b / 16) ∷ digit_glyph false (b % 16) ∷ []

-- bytes in hexadecimal digits, or a hyphen where there is none
abbrev pub hex_text : List ℕ → List ℕ
hex_text [] = codes "-"
hex_text (b ∷ bs) = flat_map hex_byte (b ∷ bs)

abbrev pub stop_name : LineStop → List ℕ
stop_name SpacePending = codes "SpacePending"
stop_name IndentTooLarge = codes "IndentTooLarge"

-- the index of the call that a run stopped before, and why
abbrev pub stop_line : Option (ℕ × LineStop) → List ℕ
stop_line None = []
stop_line (Some stop) = line_of (codes "stop " ++ decimal stop.0 ++ codes " " ++ stop_name stop.1)

-- a run of calls: a line for each answer, the bytes scanned, the rest, and where it stopped
abbrev pub run_text : List LineCall → Run → List ℕ
run_text calls run =
    flat_map answer_line (zip calls run.answers)
    ++ line_of (codes "scanned " ++ decimal run.scanned)
    ++ line_of (codes "rest " ++ hex_text run.rest)
    ++ stop_line run.stop

-- status 1 where the run stopped, else 0
abbrev pub stop_status : Option (ℕ × LineStop) → ℕ
stop_status None = 0
stop_status (Some stop) = 1

-- the printed run, and its status
abbrev pub printed_run : List LineCall → Run → Outcome
printed_run calls run = record { printed = run_text calls run; status = stop_status run.stop }

-- what a request prints for an input, and the status that it ends with
abbrev pub IsOutcome : Request → List ℕ → Outcome → Type 0
IsOutcome (scan_line calls) input outcome = outcome ≡ printed_run calls (run_of calls input)
IsOutcome scan_html input outcome = outcome ≡ printed_scans input
IsOutcome scan_unescape input outcome = IsUnescaped input outcome
IsOutcome scan_label input outcome = IsLabelOutcome input outcome

-- an output grew by what the request prints for the input, and the status is its own
pub record IsPrinted (request : Request) (input : List ℕ) (status : ℕ) (old new : Option (List ℕ))
    : Type 0 where
  pub outcome : Outcome
  pub of_request : IsOutcome request input outcome
  pub ended : status ≡ outcome.status
  pub appended : Appends old new outcome.printed
