use Rattle.std.proofs.Common.{List, refl, sym, subst}
use Rattle.std.proofs.lemmas.Result.{on_ok_weaker}
use Rattle.markdown_values.specs.values.Events.{text}
use Rattle.markdown_inlines.specs.declared.pieces.PieceKind.{PieceKind}
use Rattle.markdown_events.specs.InlineEvents.{ArePieceEvents, RangedEvent, alone}
use Rattle.markdown_events.specs.Found.{HasParts}
use Rattle.markdown_events.proofs.inline_events.push_piece.Goals as goal

pub returns-in-Reference : goal.returns-in-Reference
returns-in-Reference c =
    let parts = subst (λ (k : PieceKind). HasParts k c.args.source.now c.args.piece) c.in-Reference.is c.requires.parts in
    let here : List RangedEvent = alone c.args.piece (text parts.1) in
    let are : ArePieceEvents c.args.piece.kind c.args.source.now c.args.piece here =
    subst (λ (k : PieceKind). ArePieceEvents k c.args.source.now c.args.piece here) (sym c.in-Reference.is) (parts.0, parts.1, parts.2, refl) in
    on_ok_weaker c.push_meaning.result (λ pushed. (here, are, pushed parts.0 parts.1 parts.2)) c.push_meaning.ensures
