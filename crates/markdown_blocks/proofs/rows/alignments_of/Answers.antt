use Rattle.std.proofs.Common.{ap, ◌∙◌}
use Rattle.std.proofs.lemmas.Result.{IfOk-weaker}
use Rattle.markdown_blocks.specs.containers.Containers.{OpenContainers, match_line}
use Rattle.markdown_blocks.proofs.rows.RowLemmas.{second_tells}
use Rattle.markdown_blocks.proofs.rows.alignments_of.Goals as goal

pub returns : goal.returns
returns c = record {
  alignments =
      IfOk-weaker c.columns_of.result _ _ (λ found given.
      second_tells c.args.lines.now c.nothing.result c.in-Some.read c.in-Some.field-0-0.now c.nothing.ensures c.in-Some.ensures.line
      c.in-Some-next.field-0-1 c.in-Some-next.line.now c.in-Some-next.ensures.line c.args.containers.now c.go_on-start.result.1
      c.scan_rest-rest.result (c.go_on-start.ensures.state ∙ ap (λ (o : OpenContainers). (match_line o.containers c.in-Some-next.line.now).state) c.new-outer.ensures)
      c.scan_rest-rest.ensures.rest found.items given) c.columns_of.ensures;
}
