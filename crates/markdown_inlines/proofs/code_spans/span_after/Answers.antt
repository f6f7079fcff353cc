use Rattle.std.proofs.Common.{◌≡◌, ◌+◌, arith, refl, sym, ◌∙◌, subst}
use Rattle.markdown_scanners_tree.proofs.SomeExactlyLemmas.{SomeExactly-from_none}
use Rattle.markdown_inlines.specs.CodeSpans.{IsCodeSpan, IsBacktickString}
use Rattle.markdown_inlines.proofs.code_spans.CodeSpanLemmas.{string_at, opens_counted, strings_apart, one_code_span}
use Rattle.markdown_inlines.proofs.code_spans.span_after.Goals as goal

pub returns-then-fence-eq0-clause-found : goal.returns-then-fence-eq0-clause-found
returns-then-fence-eq0-clause-found c = λ span is.
    absurd (omega (arith, c.if-fence-eq0.true, c.requires.opens, opens_counted c.args.text.now span.content.start is.opens, is.opens.some))

pub returns-in_err-close-clause-found : goal.returns-in_err-close-clause-found
returns-in_err-close-clause-found c =
    SomeExactly-from_none (IsCodeSpan c.args.text.now) c.from_residual.ensures (λ span is.
    let fence : span.content.start ≡ c.args.fence = opens_counted c.args.text.now span.content.start is.opens ∙ sym c.requires.opens in
    c.in_err-close.ensures.none (span.content.end + 1) span.content.end (omega (arith, fence, is.in_order)) (omega arith)
    (subst (IsBacktickString c.args.text.now span.content.end) fence is.closes))

pub returns-clause-found : goal.returns-clause-found
returns-clause-found c = record {
  opens = string_at c.args.text.now 0 c.args.fence c.requires.opens (omega (arith, c.if-fence-eq0.false)) (λ k zero. absurd (omega (arith, zero)));
  in_order = c.in_ok-close.ensures.found.0;
  closes = c.in_ok-close.ensures.found.2;
  next = c.in_ok-close.ensures.found.3;
  counted = refl;
}

pub returns-clause-content : goal.returns-clause-content
returns-clause-content c =
    let is = returns-clause-found c in
    (is.opens.some, strings_apart c.args.text.now c.args.fence c.in_ok-close.close c.args.fence is.opens is.closes is.in_order, refl)

pub returns-clause-only : goal.returns-clause-only
returns-clause-only c = λ other is. one_code_span c.args.text.now other _ is (returns-clause-found c)
