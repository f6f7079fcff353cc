-- Whatever comes of the pages of the names that are left, the worse of that and of what came before comes of all.
use Rattle.std.proofs.Common.{false, true, ◌≡◌, drop, length}
use Rattle.page_programs.specs.Came.{Ends, worse}
use Rattle.page_programs.specs.Tried.{AreTried}
use Rattle.page_programs.specs.Arguments.{texts}
use Rattle.page_programs.specs.declared.came.Came.{Came}
use Rattle.page_programs.proofs.tries.try_pages.Given as goal

abbrev pub invariant-loop-name : goal.invariant-loop-name
invariant-loop-name g l = record {
  tried : (last : _) (end : Came)
      → AreTried (g.T.DoesPages.does l.command (length (texts l.names))) g.R.Read.remaining g.R.StepReader.reads g.F.OpensFiles.opens
      g.F.OpensFiles.holds g.F.File.Read.remaining g.F.File.StepReader.reads g.W.StepWriter.writes g.V.StepWriter.writes
      (texts (drop l.name-index l.names)) l.streams last end
      → AreTried (g.T.DoesPages.does l.command (length (texts l.names))) g.R.Read.remaining g.R.StepReader.reads g.F.OpensFiles.opens
      g.F.OpensFiles.holds g.F.File.Read.remaining g.F.File.StepReader.reads g.W.StepWriter.writes g.V.StepWriter.writes
      (texts l.names) l.fn.streams last (worse l.came end);
  ends : Ends (g.T.DoesPages.checks l.command ≡ true) l.came
      (g.T.DoesPages.notes l.command ≡ false → l.streams.outputs.faults ≡ l.fn.streams.outputs.faults);
}
