use Rattle.std.proofs.Common.{subst, sym}
use Rattle.markdown_values.specs.strings.Text.{cow_text}
use Rattle.markdown_scanners_tree.specs.scanners.unescaping.Unescaping.{ArePieces}
use Rattle.markdown_scanners_tree.proofs.scanners.unescaping.PieceLemmas.{themselves_join}
use Rattle.markdown_scanners_tree.proofs.scanners.unescaping.unescape.Goals as goal

pub returns-then-not-changes-clause-text : goal.returns-then-not-changes-clause-text
returns-then-not-changes-clause-text g c = λ ps are.
    let known = g.E.Entities.known c.args.entities.now in
    let read : ArePieces c.args.is_in_table known c.as_str.result.now ps =
    subst (λ t. ArePieces c.args.is_in_table known t ps) (sym c.as_str.ensures) are in
    themselves_join c.args.is_in_table known (cow_text c.args.input) ps are
    (c.measure-changes.ensures.plain ps read c.if-not-changes.true)
