-- Trees of pieces whose children can be cut.
use Rattle.std.proofs.Common.{◌≡◌, ℕ, [], ◌∷◌, Option, None, Some, IfSome, refl, sym, ap, ◌∙◌, subst}
use Rattle.markdown_values.specs.declared.tree.Node.{Node}
use Rattle.markdown_values.specs.tree.Linked.{Linked}
use Rattle.markdown_values.specs.tree.Tree.{after_append}
use Rattle.markdown_values.specs.tree.Truncate.{first_other, CanCut, CanTruncate}
use Rattle.cmark_vectors.specs.declared.pieces.Piece.{Piece}
use Rattle.cmark_vectors.specs.Pieces.{span_of, spans_of, IsParent}

leaf : Option ℕ → Piece → Node Piece
leaf next item = record { child = None; next = next; item = item }

pub can_cut_one : (parent t : Linked Piece) (a : Piece) (end : ℕ) → IsParent parent → t ≡ after_append parent a → IfSome (first_other end (spans_of (a ∷ []))) (CanCut end) → CanTruncate span_of end t
unfolding leaf
can_cut_one parent t a end p e h =
    subst (CanTruncate span_of end) (sym (e ∙ ap (λ (x : Linked Piece). after_append x a) p.2))
    (spans_of (a ∷ []), ((2, leaf None a) ∷ [], (refl, refl, refl), refl), h)

pub can_cut_two : (parent t : Linked Piece) (a b : Piece) (end : ℕ) → IsParent parent
    → t ≡ after_append (after_append parent a) b → IfSome (first_other end (spans_of (a ∷ b ∷ []))) (CanCut end)
    → CanTruncate span_of end t
unfolding leaf
can_cut_two parent t a b end p e h =
    subst (CanTruncate span_of end) (sym (e ∙ ap (λ (x : Linked Piece). after_append (after_append x a) b) p.2))
    (spans_of (a ∷ b ∷ []), ((2, leaf (Some 3) a) ∷ (3, leaf None b) ∷ [], (refl, refl, (refl, refl, refl)), refl), h)

pub can_cut_three : (parent t : Linked Piece) (a b c : Piece) (end : ℕ) → IsParent parent
    → t ≡ after_append (after_append (after_append parent a) b) c
    → IfSome (first_other end (spans_of (a ∷ b ∷ c ∷ []))) (CanCut end) → CanTruncate span_of end t
unfolding leaf
can_cut_three parent t a b c end p e h =
    subst (CanTruncate span_of end) (sym (e ∙ ap (λ (x : Linked Piece). after_append (after_append (after_append x a) b) c) p.2))
    (spans_of (a ∷ b ∷ c ∷ []), ((2, leaf (Some 3) a) ∷ (3, leaf (Some 4) b) ∷ (4, leaf None c) ∷ [], (refl, refl, (refl, refl, (refl, refl, refl))), refl), h)
