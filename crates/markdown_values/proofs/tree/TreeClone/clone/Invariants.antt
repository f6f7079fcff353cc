use Rattle.std.proofs.Common.{take}
use Rattle.std.specs.List.{AllZip}
use Rattle.markdown_values.specs.tree.Tree.{IsNodeClone}
use Rattle.markdown_values.proofs.tree.TreeClone.clone.Given as goal

-- the nodes so far are cloned
abbrev pub invariant-loop-node : goal.invariant-loop-node
invariant-loop-node g l = AllZip (IsNodeClone g.T.Clone.is_clone) (take l.node-index l.self-inside.nodes.items) l.nodes.items
