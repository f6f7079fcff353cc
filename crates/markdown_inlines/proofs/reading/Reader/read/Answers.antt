use Rattle.std.proofs.Common.{◌∙◌, ap, sym}
use Rattle.markdown_inlines.specs.Inlines.{with_piece}
use Rattle.markdown_inlines.specs.Readings.{reading_of}
use Rattle.markdown_inlines.specs.declared.pieces.PieceKind.{PieceKind}
use Rattle.markdown_inlines.proofs.reading.Reader.read.Goals as goal

pub returns-in_ok-open-in-LinkOpener : goal.returns-in_ok-open-in-LinkOpener
returns-in_ok-open-in-LinkOpener c = λ text.
    c.in_ok-open-in-LinkOpener.ensures text
    ∙ ap (λ (kind : PieceKind). with_piece kind c.args.piece (reading_of text c.args.self.now)) (sym c.in-LinkOpener.is)

pub returns-in_ok-open-in-ImageOpener : goal.returns-in_ok-open-in-ImageOpener
returns-in_ok-open-in-ImageOpener c = λ text.
    c.in_ok-open-in-ImageOpener.ensures text
    ∙ ap (λ (kind : PieceKind). with_piece kind c.args.piece (reading_of text c.args.self.now)) (sym c.in-ImageOpener.is)
