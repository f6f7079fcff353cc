use Rattle.std.proofs.Common.{◌∙◌}
use Rattle.markdown_blocks.specs.containers.Containers.{asked_in, match_line}
use Rattle.markdown_blocks.proofs.blocks.RestLemmas.{begun_none, lazy_tells}
use Rattle.markdown_blocks.proofs.blocks.endings.is_lazy.Goals as goal

pub returns : goal.returns
returns c =
    lazy_tells (asked_in c.args.line.now.outer c.args.line.now.bytes) (match_line c.args.line.now.outer.containers c.args.line.now.bytes).state
    (record { indent = c.rest.inside.indent; text = c.rest.inside.text.now }) c.is_blank.result (c.rest.view_is ∙ c.rest-rest.ensures)
    c.is_blank.ensures c.interrupts.result
    (begun_none c.begins_container.result _ c.begins_container.ensures c.if-begins_container.false) c.if-is_blank.false c.if-rest-eq4.false
    (rw c.asked.ensures at c.interrupts.ensures)
