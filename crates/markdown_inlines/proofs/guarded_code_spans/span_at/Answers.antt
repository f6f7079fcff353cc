use Rattle.std.proofs.Common.{◌∙◌, ap, subst, arith, ℕ}
use Rattle.std.specs.List.{prefix_len}
use Rattle.markdown_scanners_tree.specs.SomeExactly.{SomeExactly, IsOnly}
use Rattle.markdown_inlines.specs.CodeSpans.{IsCodeSpan, HasNone, is_backtick}
use Rattle.markdown_inlines.proofs.guarded_code_spans.LastStringLemmas.{no_later, some_later, IfNone-map}
use Rattle.markdown_inlines.proofs.guarded_code_spans.span_at.Goals as goal

pub returns-then-last_offset-offset-clause-found : goal.returns-then-last_offset-offset-clause-found
returns-then-last_offset-offset-clause-found c =
    let text = c.args.text.now in
    let fence = c.front_len-fence.result in
    let known = c.requires.known in
    no_later text known.0 c.args.lasts.now c.args.offset fence known.1 known.2
    (c.front_len-fence.ensures.count ∙ ap (prefix_len is_backtick) c.after-rest.ensures)
    (omega (arith, c.if-last_offset-offset.true, c.last_offset.ensures))

pub returns-clause-found : goal.returns-clause-found
returns-clause-found c =
    (subst (λ t. SomeExactly (IsCodeSpan t) c.span_after.result) c.after-rest.ensures c.span_after.ensures.found)

pub returns-clause-only : goal.returns-clause-only
returns-clause-only c =
    (subst (λ t. IsOnly (IsCodeSpan t) c.span_after.result) c.after-rest.ensures c.span_after.ensures.only)

pub returns-clause-counts_string : goal.returns-clause-counts_string
returns-clause-counts_string c =
    let text = c.args.text.now in
    let fence = c.front_len-fence.result in
    let known = c.requires.known in
    let later = some_later text known.0 c.args.lasts.now c.args.offset fence known.2
    (c.front_len-fence.ensures.count ∙ ap (prefix_len is_backtick) c.after-rest.ensures)
    (omega (arith, c.if-last_offset-offset.false, c.last_offset.ensures)) in
    IfNone-map c.span_after.result (λ none. absurd (later (subst (λ t. (to : ℕ) → HasNone t fence fence to) c.after-rest.ensures none)))
    c.span_after.ensures.none
