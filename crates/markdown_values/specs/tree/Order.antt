-- The order in which the nodes of a forest are listed.
use Rattle.std.specs.Prelude.{ℕ, ◌+◌, List, [], ◌∷◌, ◌++◌}
use Rattle.markdown_values.specs.tree.Forest.{Forest, no_tree, tree}

-- the nodes of a forest whose roots have this depth, each with its own: a root, then those below it, then the later trees
abbrev pub in_order : ℕ → Forest → List (ℕ × ℕ)
in_order depth no_tree = []
in_order depth (tree root children later) = (root, depth) ∷ in_order (depth + 1) children ++ in_order depth later
