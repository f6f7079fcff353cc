use Rattle.std.proofs.Common.{drop, sym, ap, ◌∙◌}
use Rattle.markdown_blocks.proofs.taken.TakenLemmas.{slice_after}
use Rattle.markdown_blocks.proofs.footnotes.FootnoteLemmas.{footnote_passed}
use Rattle.markdown_blocks.proofs.footnotes.scan_footnote.Goals as goal

pub returns-clause-found : goal.returns-clause-found
returns-clause-found c =
    let line = c.args.line.now in
    let s = c.args.start.now in
    let text = slice_after line c.bytes_scanned-offset.result ∙ ap (λ n. drop n line) c.bytes_scanned-offset.ensures.offset
    ∙ ap (drop s.offset) (sym c.requires) in
    footnote_passed c.args.extensions s c.in_ok-after.after c.pass_columns.new.start _ c.in_ok-label.label.now c.if-not-extensions.false text
    c.in_ok-label.ensures.label c.in_ok-after.ensures.further c.pass_columns.ensures.offset
