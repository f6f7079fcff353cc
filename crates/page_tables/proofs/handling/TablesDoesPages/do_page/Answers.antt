use Rattle.std.proofs.Common.{refl, string_bytes}
use Rattle.page_tables.specs.Runs.{unread, used}
use Rattle.page_tables.proofs.UseLemmas.{cant_read, used_checks, used_ends}
use Rattle.page_tables.proofs.handling.TablesDoesPages.do_page.Goals as goal

pub returns-in_err-page-clause-done : goal.returns-in_err-page-clause-done
returns-in_err-page-clause-done g c =
    unread (cant_read (g.R.Read.remaining c.args.input.now) c.from_residual.result c.in_err-page.field-0.0 c.from_residual.ensures.1
    c.in_err-page.ensures.unwritten (λ offset is. (c.in_err-page.ensures.refused offset is).0) c.in_err-page.ensures.unreplaced) refl

pub returns-clause-done : goal.returns-clause-done
returns-clause-done g c =
    used (string_bytes c.in_ok-page.page) c.in_ok-page.ensures.page
    (rw (c.as_str.ensures.value, c.task_for-task.ensures) at c.use_page.ensures.used)

pub returns-clause-read : goal.returns-clause-read
returns-clause-read g c = record {
  ended = used_ends g.W.Write.contents g.V.StepWriter.writes g.F.ReplacesFiles.refuses g.F.File.StepReader.reads g.F.NewFile.StepWriter.writes
      g.F.OpensFiles.holds g.F.ReplacesFiles.is_beside c.args.name.now c.as_str.result.now c.args.outputs.now c.use_page.new.outputs
      g.R.Read.remaining g.R.StepReader.reads c.args.input.now c.read_text.new.input c.task_for-task.result c.use_page.result
      c.use_page.ensures.used c.in_ok-page.ensures.read c.in_ok-page.ensures.ended;
  reads_alone = c.read_text.ensures.reads;
}

pub returns-clause-found : goal.returns-clause-found
returns-clause-found g c =
    used_checks g.W.Write.contents g.V.StepWriter.writes g.F.ReplacesFiles.refuses g.F.File.StepReader.reads g.F.NewFile.StepWriter.writes
    g.F.OpensFiles.holds g.F.ReplacesFiles.is_beside c.args.name.now c.as_str.result.now c.args.outputs.now c.use_page.new.outputs
    c.args.self.now.task c.use_page.result (rw c.task_for-task.ensures at c.use_page.ensures.used)
