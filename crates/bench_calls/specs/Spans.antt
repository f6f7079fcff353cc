-- A node whose children are ranges of bytes.
use Rattle.std.specs.Prelude.{◌≡◌, [], ◌∷◌, None}
use Rattle.markdown_values.specs.tree.Linked.{Linked}
use Rattle.markdown_values.specs.tree.Tree.{isolated}
use Rattle.bench_calls.specs.declared.small_trees.Span.{Span}

-- a tree of one node, whose children come next
abbrev pub IsParent : Linked Span → Type 0
IsParent t = (dummy root : Span) × (t ≡ record { nodes = isolated dummy ∷ isolated root ∷ []; spine = 1 ∷ []; focus = None })
