-- What a `Tree` ends as, where a `&mut` to one of its items is returned.
use Rattle.std.specs.Prelude.{ℕ, List, Option, slice_get, option_map}
use Rattle.std.specs.Borrow.{Lends, Fml, RattleType, MutBor}
use Rattle.markdown_values.specs.declared.tree.Node.{Node}
use Rattle.markdown_values.specs.tree.Linked.{Linked}
use Rattle.markdown_values.specs.tree.Tree.{with_item}
use Rattle.markdown_values.specs.contracts.tree.Tree.{the_row}

-- the item of the node at this index
abbrev pub item_of : {T : Type 0} → List (Node T) → ℕ → Option T
item_of nodes ix = option_map (λ node. node.item) (slice_get nodes ix)

-- once the borrow ends, the node has the last item written through it
abbrev pub lends_item : (T : RattleType) → MutBor (Linked T.Denot) → ℕ → MutBor T.Denot → Fml
lends_item T s ix r = Lends (the_row T) T s r (λ item. record s.now { nodes = with_item s.now.nodes ix item })
