-- The run and its text are those of the calls that the words ask for.
use Rattle.std.proofs.Common.{ap, sym, ◌∙◌}
use Rattle.std.proofs.lemmas.Result.{IfOk-weaker}
use Rattle.cmark_scan.specs.printing.Printed.{run_text}
use Rattle.cmark_scan.specs.printing.Run.{run_view}
use Rattle.cmark_scan.proofs.line.Outcomes.{line_outcome, run_is}
use Rattle.cmark_scan.proofs.line.line_report.Goals as goal

pub returns : goal.returns
returns c =
    let run = c.in_ok-run.run' in
    let asked = c.deref.ensures.value ∙ c.in_ok-calls.ensures in
    let of_library = c.in_ok-run.ensures in
    let ran = run_is run _ _ of_library.answers of_library.stop of_library.rest of_library.scanned in
    let same_calls = c.deref-2.ensures.value ∙ sym c.deref.ensures.value in
    let printed = c.in_ok-text.ensures ∙ ap (λ calls. run_text calls (run_view run)) same_calls in
    IfOk-weaker c.from_string.result _ _ (λ report is. is ∙ line_outcome c.args.words.now c.deref.result.now _ _ _ _ asked ran printed c.end_of.ensures) c.from_string.ensures
