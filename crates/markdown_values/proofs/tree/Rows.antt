-- Worked cases of the effects and of the forest, by computing.
use Rattle.std.proofs.Common.{◌≡◌, ℕ, [], ◌∷◌, Option, Some, None, refl}
use Rattle.markdown_values.specs.declared.tree.Node.{Node}
use Rattle.markdown_values.specs.tree.Linked.{Linked}
use Rattle.markdown_values.specs.tree.Tree.{empty_tree, after_append, after_push, after_pop, removed, after_reset, truncated_to_parent, with_node}
use Rattle.markdown_values.specs.tree.Forest as forest
use Rattle.markdown_values.specs.tree.Forest.{Forest, no_tree, tree, Focused}
use Rattle.markdown_values.specs.tree.Order.{in_order}

-- items are numbers: the dummy 0, and A to D as 65 to 68
node : Option ℕ → Option ℕ → ℕ → Node ℕ
node child next item = record { child = child; next = next; item = item }

-- append A, push, append B, append C, pop, push, append D
abbrev pushed_twice : Linked ℕ
pushed_twice = after_append (after_push (after_pop (after_append (after_append (after_push (after_append (empty_tree 0) 65) 1) 66) 67)) 1) 68

pushed_twice_nodes : pushed_twice.nodes ≡ node None None 0 ∷ node (Some 2) None 65 ∷ node None (Some 4) 66 ∷ node None None 67 ∷ node None None 68 ∷ []
unfolding node
pushed_twice_nodes = refl

pushed_twice_spine : pushed_twice.spine ≡ 1 ∷ []
pushed_twice_spine = refl

pushed_twice_focus : pushed_twice.focus ≡ Some 4
pushed_twice_focus = refl

abbrev pushed_twice_forest : Focused
pushed_twice_forest = forest.appended (forest.pushed (forest.popped (forest.appended (forest.appended (forest.pushed (forest.appended forest.empty_forest 1) 1) 2) 3)) 1) 4

-- A has children B, D
pushed_twice_forest_is : pushed_twice_forest ≡ record { forest = tree 1 (tree 2 no_tree (tree 4 no_tree no_tree)) no_tree; path = 1 ∷ []; focus = Some 4 }
pushed_twice_forest_is = refl

-- append A, push, append B, remove_node
pushed_twice_removed : removed (after_append (after_push (after_append (empty_tree 0) 65) 1) 66) ≡ record { nodes = node None None 0 ∷ node None None 65 ∷ []; spine = []; focus = Some 1 }
unfolding node
pushed_twice_removed = refl

-- append A, push, append B, push, append C, append D, pop, truncate_to_parent(C)
abbrev inside_b : Linked ℕ
inside_b = after_append (after_append (after_push (after_append (after_push (after_append (empty_tree 0) 65) 1) 66) 2) 67) 68

truncated_row : truncated_to_parent (after_pop inside_b) 3
    ≡ record {
      nodes = node None None 0 ∷ node (Some 2) None 65 ∷ node (Some 3)
          (Some 4) 66 ∷ node None None 67 ∷ node None None 68 ∷ [];
      spine = 1 ∷ [];
      focus = Some 4;
    }
unfolding node
truncated_row = refl

inside_b_spine : inside_b.spine ≡ 1 ∷ 2 ∷ []
inside_b_spine = refl

reset_empty : (after_reset {T = ℕ} (empty_tree 0)).focus ≡ None
reset_empty = refl

-- create_node A, append B, reset
reset_isolated : after_reset (after_append (with_node (empty_tree 0) 65) 66) ≡ record { nodes = node None None 0 ∷ node None None 65 ∷ node None None 66 ∷ []; spine = []; focus = Some 1 }
unfolding node
reset_isolated = refl

-- A, B under A, C under B, D after B, E after A
abbrev five : Forest
five = tree 1 (tree 2 (tree 3 no_tree no_tree) (tree 4 no_tree no_tree)) (tree 5 no_tree no_tree)

five_in_order : in_order 0 five ≡ (1, 0) ∷ (2, 1) ∷ (3, 2) ∷ (4, 1) ∷ (5, 0) ∷ []
five_in_order = refl

none_in_order : in_order 0 no_tree ≡ []
none_in_order = refl

sibling_in_focus : forest.moved_after (record { forest = five; path = 1 ∷ []; focus = None }) 2 ≡ record { forest = five; path = 1 ∷ []; focus = Some 4 }
sibling_in_focus = refl

no_sibling_left : forest.moved_after (record { forest = five; path = 1 ∷ []; focus = Some 4 }) 4 ≡ record { forest = five; path = 1 ∷ []; focus = None }
no_sibling_left = refl
