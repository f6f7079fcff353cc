use Rattle.std.proofs.Common.{[], ◌≡◌, drop, map, ap, subst, ◌∙◌, arith}
use Rattle.markdown_blocks.specs.events.Events.{seen_event}
use Rattle.markdown_events.specs.page.Levels.{IsKnownOf}
use Rattle.markdown_events.proofs.page.spans.spans_of.Goals as goal

pub returns : goal.returns
returns c = λ nodes same.
    let all : c.loop-index.index ≡ 0 = omega arith in
    let known = subst (λ index. IsKnownOf (map seen_event (drop index c.args.blocks.now)) c.loop-index.reader) all c.loop-index.invariant.1 in
    ap (λ r. r.spans) c.reader-2.view_is ∙ (known nodes [] same).1
