use Rattle.std.proofs.Common.{◌∙◌, sym}
use Rattle.markdown_blocks.proofs.definitions.LabelEnds.{search_none, search_found, search_later}
use Rattle.markdown_blocks.proofs.definitions.has_label_end.Goals as goal

pub returns-in_default : goal.returns-in_default
returns-in_default c =
    sym (search_none c.args.text.now c.loop-from.from (rw c.in_default.is at c.memchr.ensures)) ∙ c.loop-from.invariant

pub returns-then-is_label_end : goal.returns-then-is_label_end
returns-then-is_label_end c =
    sym (search_found c.args.text.now c.loop-from.from c.in-Some.found c.in-Some.ensures
    (sym c.is_label_end.ensures ∙ c.if-is_label_end.true))
    ∙ c.loop-from.invariant

pub loop-from-preserved : goal.loop-from-preserved
loop-from-preserved c =
    sym (search_later c.args.text.now c.loop-from.from c.in-Some.found c.in-Some.ensures
    (sym c.is_label_end.ensures ∙ c.if-is_label_end.false))
    ∙ c.loop-from.invariant
