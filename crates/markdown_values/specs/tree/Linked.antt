-- What a contract sees of a `Tree`.
use Rattle.std.specs.Prelude.{ℕ, List, Option, refl}
use Rattle.std.specs.Coded.{Coded, code_by, coded×, coded_ℕ, coded_list, coded_option}
use Rattle.markdown_values.specs.declared.tree.Node.{Node}

-- the nodes, of which node 0 is a dummy, the spine from a root down, and the focus
pub record Linked (T : Type 0) : Type 0 where
  pub nodes : List (Node T)
  pub spine : List ℕ
  pub focus : Option ℕ

-- a node is stored as the tuple of its fields
abbrev pub node_code : {T : Type 0} → Coded T → Coded (Node T)
node_code {T} code =
    code_by
    (Option ℕ × (Option ℕ × T))
    (coded× (coded_option coded_ℕ) (coded× (coded_option coded_ℕ) code))
    (λ n. (n.child, (n.next, n.item)))
    (λ p. record { child = p.0; next = p.1.0; item = p.1.1 })
    (λ _. refl)

-- a tree is stored as the tuple of its fields
abbrev pub linked_code : {T : Type 0} → Coded T → Coded (Linked T)
linked_code {T} code =
    code_by
    (List (Node T) × (List ℕ × Option ℕ))
    (coded× (coded_list (node_code code)) (coded× (coded_list coded_ℕ) (coded_option coded_ℕ)))
    (λ t. (t.nodes, (t.spine, t.focus)))
    (λ p. record { nodes = p.0; spine = p.1.0; focus = p.1.1 })
    (λ _. refl)
