use Rattle.std.proofs.Common.{◌∙◌, sym}
use Rattle.markdown_scanners_tree.proofs.scanners.html_kinds.EndLemmas.{search_none, search_found, search_later}
use Rattle.markdown_scanners_tree.proofs.scanners.html_kinds.holds_html_end.Goals as goal

pub returns-in_default : goal.returns-in_default
returns-in_default c =
    sym (search_none c.args.kind c.args.bytes.now c.loop-from.from c.first_of_end-first.result
    c.first_of_end-first.ensures (rw c.in_default.is at c.memchr.ensures))
    ∙ c.loop-from.invariant

pub returns-then-begins_html_end : goal.returns-then-begins_html_end
returns-then-begins_html_end c =
    sym (search_found c.args.kind c.args.bytes.now c.loop-from.from c.in-Some.found c.first_of_end-first.result
    c.first_of_end-first.ensures c.in-Some.ensures (sym c.begins_html_end.ensures ∙ c.if-begins_html_end.true))
    ∙ c.loop-from.invariant

pub loop-from-preserved : goal.loop-from-preserved
loop-from-preserved c =
    sym (search_later c.args.kind c.args.bytes.now c.loop-from.from c.in-Some.found c.first_of_end-first.result
    c.first_of_end-first.ensures c.in-Some.ensures (sym c.begins_html_end.ensures ∙ c.if-begins_html_end.false))
    ∙ c.loop-from.invariant
