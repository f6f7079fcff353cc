-- Pieces of text as the children of a node.
use Rattle.std.specs.Prelude.{◌≡◌, ℕ, suc, List, [], ◌∷◌, None}
use Rattle.markdown_values.specs.tree.Linked.{Linked}
use Rattle.markdown_values.specs.tree.Tree.{isolated}
use Rattle.markdown_values.specs.tree.Truncate.{Span}
use Rattle.cmark_vectors.specs.declared.pieces.Piece.{Piece}

abbrev pub span_of : Piece → Span
span_of p = record { start = p.start; end = p.end; escaped = p.escaped }

-- the ranges of some pieces, as the nodes from this index on
abbrev pub spans_from : ℕ → List Piece → List (ℕ × Span)
spans_from ix [] = []
spans_from ix (p ∷ ps) = (ix, span_of p) ∷ spans_from (suc ix) ps

-- the ranges of the children of node 1
abbrev pub spans_of : List Piece → List (ℕ × Span)
spans_of = spans_from 2

-- a tree of one node, whose children come next
abbrev pub IsParent : Linked Piece → Type 0
IsParent t = (dummy root : Piece) × (t ≡ record { nodes = isolated dummy ∷ isolated root ∷ []; spine = 1 ∷ []; focus = None })
