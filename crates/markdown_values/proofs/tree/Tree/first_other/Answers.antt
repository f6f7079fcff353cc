use Rattle.std.proofs.Common.{arith, refl, []}
use Rattle.markdown_values.specs.tree.Truncate.{IsChain}
use Rattle.markdown_values.proofs.tree.truncate.ChainLemmas.{Passed-within, Passed-found, Passed-smaller, Passed-more, Passed-all}
use Rattle.markdown_values.proofs.tree.Tree.first_other.Goals as goal

pub loop-next-init : goal.loop-next-init
loop-next-init g c =
    let children = c.requires.children.1 in
    let chain : IsChain c.args.self.now.nodes c.index.result.now.child children.0 = rw c.index.ensures.here at children.1 in
    ([], children.0, record { chain = children.1; ends_before = λ k d lt. absurd (omega arith); next_is = chain; previous_is = refl })

pub index-node-requires : goal.index-node-requires
index-node-requires g c =
    let i = rw c.in-Some.is at c.loop-next.invariant in
    Passed-within _ _ _ _ _ _ _ _ i.2

pub returns-then-end : goal.returns-then-end
returns-then-end g c =
    let i = rw c.in-Some.is at c.loop-next.invariant in
    Passed-found _ _ _ _ c.in-Some.ix c.index-node.result.now c.loop-next.previous i.0 i.1 c.index-node.ensures.here (omega arith) i.2

pub loop-next-smaller : goal.loop-next-smaller
loop-next-smaller g c =
    let i = rw c.in-Some.is at c.loop-next.invariant in
    rw c.in-Some.is (Passed-smaller _ _ _ _ c.in-Some.ix c.index-node.result.now c.loop-next.previous i.0 i.1 c.index-node.ensures.here i.2)

pub loop-next-preserved : goal.loop-next-preserved
loop-next-preserved g c =
    let i = rw c.in-Some.is at c.loop-next.invariant in
    Passed-more _ _ _ _ c.in-Some.ix c.index-node.result.now c.loop-next.previous i.0 i.1 c.index-node.ensures.here (omega arith) i.2

pub returns : goal.returns
returns g c =
    let i = rw c.in_default.is at c.loop-next.invariant in
    Passed-all _ _ _ _ c.loop-next.previous i.0 i.1 i.2
