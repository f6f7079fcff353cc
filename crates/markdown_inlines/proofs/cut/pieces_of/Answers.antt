use Rattle.std.proofs.Common.{◌∷◌, ◌++◌, ◌∙◌, ◌+◌, [], List, ap, arith, drop, sym}
use Rattle.std.proofs.lemmas.List.{append_assoc}
use Rattle.markdown_inlines.specs.Written.{pieces_of}
use Rattle.markdown_inlines.specs.declared.pieces.Piece.{Piece}
use Rattle.markdown_inlines.proofs.cut.WrittenLemmas.{pieces_step}
use Rattle.markdown_inlines.proofs.cut.pieces_of.Goals as goal

pub loop-inline-preserved : goal.loop-inline-preserved
loop-inline-preserved c =
    let rest = pieces_of (drop (c.loop-inline.inline-index + 1) c.args.inlines.now) in
    ap (λ (l : List Piece). l ++ rest) (c.in_ok-push.ensures.items ∙ ap (λ p. c.loop-inline.pieces.items ++ p ∷ []) c.piece_of.ensures)
    ∙ (append_assoc c.loop-inline.pieces.items _ rest
    ∙ (ap (λ (l : List Piece). c.loop-inline.pieces.items ++ l)
    (sym (pieces_step c.args.inlines.now c.loop-inline.inline-index _ _ (omega arith) c.loop-inline-test.true))
    ∙ c.loop-inline.invariant))
