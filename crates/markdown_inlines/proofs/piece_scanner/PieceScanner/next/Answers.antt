use Rattle.std.proofs.Common.{length, subst}
use Rattle.std.specs.Prelude.{IfNone, IfOk}
use Rattle.markdown_inlines.specs.Pieces.{HasOnlyText, ReadText}
use Rattle.markdown_inlines.proofs.piece_scanner.PieceScanner.next.Goals as goal

pub returns-clause-none : goal.returns-clause-none
returns-clause-none c =
    subst (λ (s : ReadText). IfOk c.next_piece-piece.result (λ found. IfNone found (HasOnlyText s.asked s.text s.offset (length s.text)))) c.self.view_is
    c.next_piece-piece.ensures.none
