use Rattle.std.proofs.lemmas.Result.{IfOk-weaker}
use Rattle.markdown_blocks.proofs.rows.RowLemmas.{row_tells}
use Rattle.markdown_blocks.proofs.rows.columns_of.Goals as goal

pub returns : goal.returns
returns c =
    rw (← c.rest.view_is) (IfOk-weaker c.alignments_in.result _ _
    (λ found is. row_tells c.rest.inside.indent c.rest.inside.text.now found.items c.if-rest-eq4.false is) c.alignments_in.ensures)
