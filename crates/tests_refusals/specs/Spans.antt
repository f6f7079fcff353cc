-- Ranges of bytes as the children of a node.
use Rattle.std.specs.Prelude.{◌≡◌, ℕ, suc, List, [], ◌∷◌, None, false}
use Rattle.markdown_values.specs.tree.Linked.{Linked}
use Rattle.markdown_values.specs.tree.Tree.{isolated}
use Rattle.markdown_values.specs.tree.Truncate as truncate
use Rattle.tests_refusals.specs.declared.no_memory.trees.Span.{Span}

abbrev pub span_of : Span → truncate.Span
span_of p = record { start = p.start; end = p.end; escaped = false }

-- the ranges of some children, as the nodes from this index on
abbrev pub spans_from : ℕ → List Span → List (ℕ × truncate.Span)
spans_from ix [] = []
spans_from ix (p ∷ ps) = (ix, span_of p) ∷ spans_from (suc ix) ps

-- the ranges of the children of node 1
abbrev pub spans_of : List Span → List (ℕ × truncate.Span)
spans_of = spans_from 2

-- a tree of one node, whose children come next
abbrev pub IsParent : Linked Span → Type 0
IsParent t = (dummy root : Span) × (t ≡ record { nodes = isolated dummy ∷ isolated root ∷ []; spine = 1 ∷ []; focus = None })
