use Rattle.std.proofs.Common.{◌≤◌, length, sym, subst}
use Rattle.markdown_inlines.proofs.piece_scanner.PieceScanner.passed.Goals as goal

pub passed-requires : goal.passed-requires
passed-requires c =
    let is = c.self.invariant in
    record { searched = (c.self.inside.offset, subst (λ t. c.self.inside.offset ≤ length t) (sym is.0) is.1, is.2) }
