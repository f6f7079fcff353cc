use Rattle.std.proofs.Common.{◌<◌, length, arith, sym, ◌∙◌, refl}
use Rattle.markdown_scanners_tree.proofs.scanners.tables.CellLemmas.{alignment-scanned, alignment-spaces}
use Rattle.markdown_scanners_tree.proofs.scanners.tables.alignment_of.Goals as goal

pub returns-then-i-cell : goal.returns-then-i-cell
returns-then-i-cell c = sym (alignment-spaces c.args.cell.now (sym c.scan_ch_repeat-i.ensures.run ∙ c.if-i-cell.true))

pub returns : goal.returns
returns c =
    let below : c.scan_ch_repeat-i.result < length c.args.cell.now = omega arith in
    c.alignment_by.ensures ∙ alignment-scanned c.args.cell.now c.scan_ch_repeat-i.result _ _
    c.scan_ch_repeat-i.ensures.run below refl c.has_colon-later.ensures
