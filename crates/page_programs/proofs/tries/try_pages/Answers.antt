use Rattle.std.proofs.Common.{List, [], ℕ, length, slice_index_or, refl, sym, ap, subst, arith, ◌∙◌}
use Rattle.std.proofs.lemmas.List.{at_drop_more, drop_all, length-map}
use Rattle.std.proofs.lemmas.Bool.{false≢true}
use Rattle.std.specs.Borrow.{Bor}
use Rattle.page_programs.specs.Came.{worse}
use Rattle.page_programs.specs.Tried.{AreTried, last_tried, none_left, tried}
use Rattle.page_programs.specs.Arguments.{texts}
use Rattle.page_programs.specs.declared.came.Came.TheVariants.{Done, HasNoOutput}
use Rattle.page_programs.proofs.CameLemmas.{worse_assoc, worse_done}
use Rattle.page_programs.proofs.EndLemmas.{ends_worse}
use Rattle.page_programs.proofs.tries.try_pages.Goals as goal

pub loop-name-init : goal.loop-name-init
loop-name-init g c = record {
  tried = λ last end all. all;
  ends = λ silent. refl;
}

pub returns-then-has_no_output-clause-tried : goal.returns-then-has_no_output-clause-tried
returns-then-has_no_output-clause-tried g c =
    let now = c.loop-name.streams in
    let next = c.try_named-one.new.streams in
    let name = (slice_index_or c.args.names.now c.loop-name.name-index record { ref_ptr = (0, 0); now = [] }).now in
    let tries = AreTried (g.T.DoesPages.does c.args.command.now (length (texts c.args.names.now))) g.R.Read.remaining g.R.StepReader.reads
    g.F.OpensFiles.opens g.F.OpensFiles.holds g.F.File.Read.remaining g.F.File.StepReader.reads g.W.StepWriter.writes g.V.StepWriter.writes in
    let is = c.has_no_output.ensures.0 c.if-has_no_output.true in
    let one = rw (sym (length-map {A = Bor (List ℕ)} c.args.names.now (λ word. word.now))) at c.try_named-one.ensures.tried in
    rw (c.worse-came.ensures, is) (c.loop-name.invariant.tried next HasNoOutput
    (subst (λ (ns : List (List ℕ)). tries ns now next HasNoOutput)
    (sym (at_drop_more texts c.args.names.now c.loop-name.name-index _ c.loop-name-test.true))
    (last_tried name _ now next (rw is at one))))

pub loop-name-preserved : goal.loop-name-preserved
loop-name-preserved g c =
    let now = c.loop-name.streams in
    let next = c.try_named-one.new.streams in
    let name = (slice_index_or c.args.names.now c.loop-name.name-index record { ref_ptr = (0, 0); now = [] }).now in
    let tries = AreTried (g.T.DoesPages.does c.args.command.now (length (texts c.args.names.now))) g.R.Read.remaining g.R.StepReader.reads
    g.F.OpensFiles.opens g.F.OpensFiles.holds g.F.File.Read.remaining g.F.File.StepReader.reads g.W.StepWriter.writes g.V.StepWriter.writes in
    let one = rw (sym (length-map {A = Bor (List ℕ)} c.args.names.now (λ word. word.now))) at c.try_named-one.ensures.tried in
    record {
      tried = λ last end later.
          rw (c.worse-came.ensures, worse_assoc c.loop-name.came c.try_named-one.result end)
          (c.loop-name.invariant.tried last (worse c.try_named-one.result end)
          (subst (λ (ns : List (List ℕ)). tries ns now last (worse c.try_named-one.result end))
          (sym (at_drop_more texts c.args.names.now c.loop-name.name-index _ c.loop-name-test.true))
          (tried name _ now next last c.try_named-one.result end (λ is. false≢true (sym c.if-has_no_output.false ∙ c.has_no_output.ensures.1 is)) one later)));
      ends = rw c.worse-came.ensures
          (ends_worse _ _ _ _ c.loop-name.came c.try_named-one.result (λ start end silent. end silent ∙ start silent)
          c.loop-name.invariant.ends c.try_named-one.ensures.ends);
    }

pub returns-then-has_no_output-clause-ends : goal.returns-then-has_no_output-clause-ends
returns-then-has_no_output-clause-ends g c =
    rw c.worse-came.ensures
    (ends_worse _ _ _ _ c.loop-name.came c.try_named-one.result (λ start end silent. end silent ∙ start silent)
    c.loop-name.invariant.ends c.try_named-one.ensures.ends)

pub returns-clause-tried : goal.returns-clause-tried
returns-clause-tried g c =
    let now = c.loop-name.streams in
    let tries = AreTried (g.T.DoesPages.does c.args.command.now (length (texts c.args.names.now))) g.R.Read.remaining g.R.StepReader.reads
    g.F.OpensFiles.opens g.F.OpensFiles.holds g.F.File.Read.remaining g.F.File.StepReader.reads g.W.StepWriter.writes g.V.StepWriter.writes in
    rw (← worse_done c.loop-name.came) (c.loop-name.invariant.tried now Done
    (subst (λ (ns : List (List ℕ)). tries ns now now Done)
    (sym (ap texts (drop_all c.loop-name.name-index c.args.names.now (omega (arith, c.loop-name-test.false)))))
    (none_left now)))
