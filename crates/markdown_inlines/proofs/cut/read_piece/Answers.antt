use Rattle.std.proofs.Common.{◌≡◌, ◌∙◌, true, false, refl, sym, subst}
use Rattle.markdown_inlines.specs.Inlines.{Setting}
use Rattle.markdown_inlines.specs.Readings.{IsKept, reading_of}
use Rattle.markdown_inlines.proofs.cut.CutLemmas.{is_read}
use Rattle.markdown_inlines.proofs.reading.ReadingLemmas.{piece_kept}
use Rattle.markdown_inlines.proofs.cut.read_piece.Goals as goal
use Rattle.markdown_inlines.proofs.cut.read_piece.Goals.{in-Closer, in_default}

pub returns-then-not-matches-clause-read : goal.returns-then-not-matches-clause-read
returns-then-not-matches-clause-read g c =
    let setting : Setting = record { asked = c.args.extensions; known = g.L.Labels.known c.args.labels.now } in
    let text = c.args.text.now in
    is_read setting (reading_of text c.args.buffers.now.reader) (reading_of text c.read.new.self) c.args.piece c.args.piece.kind refl
    (λ closer. elim c.match-matches.branch [
      | in-Closer w ↦ (let bad : true ≡ false = sym w.matches-is ∙ c.if-not-matches.true in cc)
      | in_default w ↦ w.in_default.not-Closer closer
    ]) c.requires.here (c.in_ok-read.ensures text)

pub returns-then-not-matches-clause-kept : goal.returns-then-not-matches-clause-kept
returns-then-not-matches-clause-kept g c =
    let text = c.args.text.now in
    subst IsKept (sym (c.in_ok-read.ensures text))
    (piece_kept (reading_of text c.args.buffers.now.reader) c.args.piece c.requires.source c.requires.kept c.args.extensions text
    c.args.piece.start c.args.piece.start c.requires.here.len c.args.piece.kind c.requires.here.begins)
