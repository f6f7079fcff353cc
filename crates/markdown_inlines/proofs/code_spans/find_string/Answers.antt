use Rattle.std.proofs.Common.{◌≢◌, subst, arith, get_or}
use Rattle.std.proofs.lemmas.List.Sums.{prefix_len-le-length}
use Rattle.markdown_scanners_tree.specs.Ascii.{backtick}
use Rattle.markdown_inlines.specs.CodeSpans.{IsBacktickString, is_backtick}
use Rattle.markdown_inlines.proofs.code_spans.CodeSpanLemmas.{none_after, none_within, none_joined}
use Rattle.markdown_inlines.proofs.code_spans.find_string.Goals as goal

pub loop-start-init : goal.loop-start-init
loop-start-init c = (
  omega arith,
  omega (arith, c.requires.opens, prefix_len-le-length is_backtick c.args.text.now),
  λ offset low high. absurd (omega (arith, low, high)),
  subst (λ k. get_or c.args.text.now k 0 ≢ backtick) (omega arith) (none_after c.args.text.now 0 c.args.fence c.requires.opens),
  omega arith,
)

pub next_string-requires-clause-room : goal.next_string-requires-clause-room
next_string-requires-clause-room c = omega (arith, c.requires.room, c.requires.fits, c.loop-start.invariant.1, c.loop-start.invariant.4)

pub returns-then-run-fence-clause-found : goal.returns-then-run-fence-clause-found
returns-then-run-fence-clause-found c =
    let text = c.args.text.now in
    let found = c.in-Some.ensures.found in (
      omega (arith, c.loop-start.invariant.0, found.0),
      omega (arith, c.in-Some.ensures.within, found.1.some),
      subst (IsBacktickString text c.in-Some.start) c.if-run-fence.true found.1,
      none_joined text c.args.fence c.args.fence c.loop-start.offset _ c.loop-start.invariant.2 (found.2 c.args.fence),
    )

pub loop-start-preserved : goal.loop-start-preserved
loop-start-preserved c =
    let text = c.args.text.now in
    let found = c.in-Some.ensures.found in
    let before = none_joined text c.args.fence c.args.fence c.loop-start.offset c.in-Some.start c.loop-start.invariant.2 (found.2 c.args.fence) in (
      omega (arith, c.loop-start.invariant.0, found.0),
      c.in-Some.ensures.within,
      none_joined text c.args.fence c.args.fence c.in-Some.start _ before
          (none_within text c.args.fence c.in-Some.start c.in-Some.run' found.1 c.if-run-fence.false),
      found.1.not_followed,
      omega (arith, c.loop-start.invariant.4, c.in-Some.ensures.counts),
    )

pub returns-clause-none : goal.returns-clause-none
returns-clause-none c = λ to.
    none_joined c.args.text.now c.args.fence c.args.fence c.loop-start.offset to c.loop-start.invariant.2
    (c.in_default.ensures.none c.args.fence to c.requires.some)
