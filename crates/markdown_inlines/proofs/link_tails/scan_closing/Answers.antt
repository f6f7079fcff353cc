use Rattle.std.proofs.Common.{◌∙◌, sym, subst, arith}
use Rattle.std.specs.Str.{IsCharBoundary}
use Rattle.markdown_inlines.proofs.link_tails.LinkTailLemmas.{closing_found, closing_only, no_closing, cut_closing}
use Rattle.markdown_inlines.proofs.link_tails.scan_closing.Goals as goal

pub returns-then-is_closed-clause-found : goal.returns-then-is_closed-clause-found
returns-then-is_closed-clause-found c =
    closing_found c.args.bytes.now c.gap_len-gap.result c.gap_len-gap.ensures.gap (sym c.is_closed.ensures ∙ c.if-is_closed.true)

pub returns-then-is_closed-clause-only : goal.returns-then-is_closed-clause-only
returns-then-is_closed-clause-only c = λ n is. (closing_only c.args.bytes.now c.gap_len-gap.result c.gap_len-gap.ensures.gap n is).0

pub returns-then-is_closed-clause-before : goal.returns-then-is_closed-clause-before
returns-then-is_closed-clause-before c = λ utf8.
    subst (IsCharBoundary c.args.bytes.now) (omega arith) (c.gap_len-gap.ensures.after utf8)

pub returns-then-is_closed-clause-after : goal.returns-then-is_closed-clause-after
returns-then-is_closed-clause-after c =
    cut_closing c.args.bytes.now c.gap_len-gap.result c.gap_len-gap.ensures.gap (sym c.is_closed.ensures ∙ c.if-is_closed.true)

pub returns-else-is_closed-clause-found : goal.returns-else-is_closed-clause-found
returns-else-is_closed-clause-found c =
    no_closing c.args.bytes.now c.gap_len-gap.result c.gap_len-gap.ensures.gap (sym c.is_closed.ensures ∙ c.if-is_closed.false)
