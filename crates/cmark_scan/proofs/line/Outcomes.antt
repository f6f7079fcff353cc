-- The outcome of a run of calls.
use Rattle.std.proofs.Common.{◌≡◌, ℕ, List, ap, ◌∙◌}
use denote.Ref.{Bor}
use Rattle.std.specs.List.{filter_map}
use Rattle.markdown_scanners_tree.specs.declared.line.run.LineCall.{LineCall}
use Rattle.markdown_scanners_tree.specs.line.run.PlainRun.{plain_run, indexed_stop, rest_after, scanned_after}
use Rattle.markdown_scanners_tree.specs.declared.line.run.LineRun.{LineRun}
use Rattle.cmark_scan.specs.printing.Run.{Run, run_of, run_view}
use Rattle.cmark_scan.specs.words.Words.{call_of, calls_of}
use Rattle.cmark_scan.specs.words.Command.{texts}
use Rattle.cmark_scan.specs.printing.Outcome.{Outcome}
use Rattle.cmark_scan.specs.printing.Printed.{run_text, stop_status}
use Rattle.cmark_scan.proofs.words.Texts.{calls_of_texts}

abbrev outcome : List ℕ → ℕ → Outcome
outcome text n = record { printed = text; status = n }

pub line_outcome : (words : List (Bor (List ℕ))) (calls : List LineCall) (run : Run) (input text : List ℕ) (n : ℕ)
    → calls ≡ filter_map (λ word. call_of word.now) words → run ≡ run_of calls input → text ≡ run_text calls run → n ≡ stop_status run.stop
    → outcome text n ≡ outcome (run_text (calls_of (texts words)) (run_of (calls_of (texts words)) input)) (stop_status (run_of (calls_of (texts words)) input).stop)
line_outcome words calls run input text n said ran printed ended =
    ap (λ t. outcome t n) printed ∙ ap (λ m. outcome (run_text calls run) m) ended
    ∙ ap (λ r. outcome (run_text calls r) (stop_status r.stop)) ran
    ∙ ap (λ cs. outcome (run_text cs (run_of cs input)) (stop_status (run_of cs input).stop)) (said ∙ calls_of_texts words)

-- what the library says of a run, field by field
pub run_is : (run : LineRun) (calls : List LineCall) (line : List ℕ)
    → run.answers.items ≡ (plain_run line calls).answers → run.stop ≡ indexed_stop (plain_run line calls)
    → run.rest.items ≡ rest_after line (plain_run line calls) → run.scanned ≡ scanned_after line (plain_run line calls)
    → run_view run ≡ run_of calls line
unfolding run_of
run_is run calls line answers stop rest scanned = λ i. record { answers = answers i; rest = rest i; scanned = scanned i; stop = stop i }
