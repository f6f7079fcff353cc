use Rattle.std.proofs.Common.{◌∙◌, ◌+◌, ap, arith, length, subst}
use Rattle.std.specs.Str.{IsUtf8}
use Rattle.markdown_events.specs.InlineEvents.{ranged}
use Rattle.markdown_events.specs.page.LeafContent.{line_event}
use Rattle.markdown_events.proofs.page.leaf_content.LineLemmas.{all_given, line_there, next_cut, next_given, none_given, given_within}
use Rattle.markdown_events.proofs.page.leaf_content.line_events.Goals as goal

pub loop-from-init : goal.loop-from-init
loop-from-init c =
    rw c.requires (none_given c.args.is_html c.args.source.now (subst IsUtf8 c.text.ensures c.text.utf8))

pub part-requires-clause-ends : goal.part-requires-clause-ends
part-requires-clause-ends c =
    let there = line_there c.args.source.now c.as_bytes-text.result.now c.loop-from.from c.scan_line.result
    (c.as_bytes-text.ensures.value ∙ c.text.ensures) c.loop-from-test.true c.scan_line.ensures.line c.scan_line.ensures.within in
    next_cut c.args.is_html c.args.source.now c.loop-from.events.items c.loop-from.from c.scan_line.result
    (subst IsUtf8 c.text.ensures c.text.utf8) there.0 there.1 there.2 c.loop-from.invariant

pub loop-from-preserved : goal.loop-from-preserved
loop-from-preserved c =
    let there = line_there c.args.source.now c.as_bytes-text.result.now c.loop-from.from c.scan_line.result
    (c.as_bytes-text.ensures.value ∙ c.text.ensures) c.loop-from-test.true c.scan_line.ensures.line c.scan_line.ensures.within in
    rw (c.push_reserved.ensures.items, c.reserve.ensures.items) (next_given c.args.is_html c.args.source.now c.loop-from.events.items c.loop-from.from c.scan_line.result
    (subst IsUtf8 c.text.ensures c.text.utf8) there.0 there.1 there.2 c.loop-from.invariant _
    (ap (λ e. ranged e c.loop-from.from (c.loop-from.from + c.scan_line.result))
    (c.line_event.ensures ∙ ap (line_event c.args.is_html) c.in_ok-line.ensures)))

pub returns-clause-within : goal.returns-clause-within
returns-clause-within c =
    let sizes = ap length (c.as_bytes-text.ensures.value ∙ c.text.ensures) in
    given_within c.args.is_html c.args.source.now _ (all_given c.args.is_html c.args.source.now c.loop-from.events.items c.loop-from.from
    (omega (arith, sizes)) c.loop-from.invariant)
