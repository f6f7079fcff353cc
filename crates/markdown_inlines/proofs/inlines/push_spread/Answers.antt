use Rattle.std.proofs.Common.{◌++◌, ◌∙◌, ◌+◌, List, ap, arith, drop, sym}
use Rattle.std.specs.List.{flat_map}
use Rattle.std.proofs.lemmas.List.{append_assoc}
use Rattle.markdown_inlines.specs.Written.{spread}
use Rattle.markdown_inlines.specs.declared.inlines.Inline.{Inline}
use Rattle.markdown_inlines.proofs.cut.WrittenLemmas.{spread_done, spread_step}
use Rattle.markdown_inlines.proofs.inlines.push_spread.Goals as goal

pub loop-inline-preserved : goal.loop-inline-preserved
loop-inline-preserved c = λ emphasis are.
    let out = c.loop-inline.out.items in
    let rest = flat_map (spread emphasis) (drop (c.loop-inline.inline-index + 1) c.args.inlines.now) in
    ap (λ (l : List Inline). l ++ rest) (c.in_ok-push_inline.ensures emphasis are)
    ∙ (append_assoc out _ rest
    ∙ (ap (λ (l : List Inline). out ++ l)
    (sym (spread_step (spread emphasis) c.args.inlines.now c.loop-inline.inline-index _ _ (omega arith) c.loop-inline-test.true))
    ∙ c.loop-inline.invariant emphasis are))

pub returns : goal.returns
returns c = λ emphasis are.
    sym (spread_done (spread emphasis) c.args.inlines.now c.loop-inline.out.items c.loop-inline.inline-index c.loop-inline-test.false)
    ∙ c.loop-inline.invariant emphasis are
