use Rattle.std.proofs.Common.{◌∙◌}
use Rattle.markdown_blocks.proofs.kinds.KindLemmas.{begins_after, not_given}
use Rattle.markdown_blocks.proofs.kinds.kind_of.Goals as goal

pub returns : goal.returns
returns c =
    rw (← c.rest.view_is) (begins_after c.kind_at.result (record { indent = c.rest.inside.indent; text = c.rest.inside.text.now })
    (not_given c.if-is_blank.false (λ t. c.is_blank.ensures ∙ t)) c.if-rest-eq4.false c.kind_at.ensures)
