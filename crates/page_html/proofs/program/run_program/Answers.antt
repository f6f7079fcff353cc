use Rattle.std.proofs.Common.{true, length, ◌≡◌, ◌≢◌, inl, inr, sym, ap, subst, ◌∙◌, arith}
use Rattle.page_programs.proofs.AnswerLemmas.{is_reported}
use Rattle.page_programs.specs.Arguments.{pages_of}
use Rattle.page_html.proofs.SafeRuns.{asked_run, nothing, run_safely}
use Rattle.page_html.specs.declared.asked.Asked.{Asked}
use Rattle.page_html.specs.declared.asked.Form.TheVariants.{Html}
use Rattle.page_html.specs.Printed.{PrintsSafely}
use Rattle.page_html.proofs.program.run_program.Goals as goal

pub returns-clause-run : goal.returns-clause-run
returns-clause-run g c =
    asked_run g.W.Write.contents g.R.Read.remaining g.R.StepReader.reads g.F.OpensFiles.opens g.F.OpensFiles.holds g.F.File.Read.remaining
    g.F.File.StepReader.reads g.W.StepWriter.writes g.V.StepWriter.writes _ _ _ _ _ _ c.asked_of.result _ c.asked_of.ensures c.run_command.ensures

pub returns-clause-safe : goal.returns-clause-safe
returns-clause-safe g c = λ pages is_html is_safe.
    let html : c.asked_of.result.form ≡ Html = ap (λ (asked : Asked). asked.form) c.asked_of.ensures ∙ is_html in
    let safe : c.asked_of.result.safe ≡ true = ap (λ (asked : Asked). asked.safe) c.asked_of.ensures ∙ is_safe in
    let run = c.run_command.ensures in
    let old = c.args.streams.now in
    let new = c.run_command.new.streams in
    let all : c.run_command.result ≢ 2 → PrintsSafely (g.W.Write.contents old.outputs.output) (g.W.Write.contents new.outputs.output) = λ known.
    let handled = run.handled known pages in
    run_safely c.asked_of.result html safe g.W.Write.contents g.R.Read.remaining g.R.StepReader.reads g.F.OpensFiles.opens g.F.OpensFiles.holds
    g.F.File.Read.remaining g.F.File.StepReader.reads g.W.StepWriter.writes g.V.StepWriter.writes (length (pages_of c.args.arguments.now))
    (pages_of c.args.arguments.now) old new handled.0 handled.2 in
    elim run.is_status [
      | inl done ↦ all (λ two. absurd (omega (arith, done, two)))
      | inr others ↦ elim others [
        | inl found ↦ all (λ two. absurd (omega (arith, found, two)))
        | inr rest ↦ elim rest [
          | inl unknown ↦ subst (λ out. PrintsSafely (g.W.Write.contents old.outputs.output) (g.W.Write.contents out))
              (sym (is_reported _ _ _ _ _ _ _ _ _ run.answered unknown).1.same_output) (nothing (g.W.Write.contents old.outputs.output))
          | inr three ↦ all (λ two. absurd (omega (arith, three, two)))
        ]
      ]
    ]
