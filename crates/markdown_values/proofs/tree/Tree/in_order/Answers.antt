use Rattle.std.proofs.Common.{◌≡◌, length, arith, rules, Some}
use Rattle.markdown_values.proofs.tree.OrderLemmas.{in_order-once, IsWalked-first, IsWalked-pop, IsWalked-step, IsWalked-done, IsWalked-all}
use Rattle.markdown_values.proofs.tree.Tree.in_order.Goals as goal

pub loop-init : goal.loop-init
loop-init g c =
    let count : c.len-end.result ≡ length c.args.self.now.nodes = search rules in (
      count,
      rw (c.new-order.ensures.items, c.in_ok-push_link.ensures, c.new-pending.ensures.items)
          (IsWalked-first c.args.self.now c.first_root.result c.first_root.ensures.root c.first_root.ensures.within),
    )

pub index-node-requires : goal.index-node-requires
index-node-requires g c = (IsWalked-pop _ _ _ _ _ (Some _) c.in-Some.ensures.items c.loop.invariant.1).0

pub overflow_add-depth : goal.overflow_add-depth
overflow_add-depth g c =
    let deep = (IsWalked-pop _ _ _ _ _ (Some _) c.in-Some.ensures.items c.loop.invariant.1).1 in
    omega (arith, deep, c.loop-test.true, c.len-end.type_inv)

pub loop-preserved : goal.loop-preserved
loop-preserved g c = (
  c.loop.invariant.0,
  rw (c.in_ok-push_link-3.ensures, c.in_ok-push_link-2.ensures, c.in_ok-push.ensures.items)
      (IsWalked-step c.args.self.now c.loop.counter c.loop.order.items c.pop.new.self.items _ _ c.index-node.result.now c.index-node.ensures
      (rw c.in-Some.ensures.items at c.loop.invariant.1)),
)

pub returns-in_default-clause-once : goal.returns-in_default-clause-once
returns-in_default-clause-once g c =
    let none : length c.loop.pending.items ≡ 0 = search rules in
    λ forest h. rw (IsWalked-done c.args.self.now c.loop.counter c.loop.order.items c.loop.pending.items none c.loop.invariant.1 forest h) (in_order-once c.args.self.now forest h)

pub returns-clause-forest : goal.returns-clause-forest
returns-clause-forest g c =
    let all : c.loop.counter ≡ length c.args.self.now.nodes = omega (arith, c.loop-test.false, c.loop.auto.counter-end, c.loop.invariant.0) in
    λ forest h. IsWalked-all c.args.self.now c.loop.order.items c.loop.pending.items (rw all at c.loop.invariant.1) forest h

pub returns-clause-once : goal.returns-clause-once
returns-clause-once g c = λ forest h. rw (returns-clause-forest g c forest h) (in_order-once c.args.self.now forest h)
