-- The pieces of the text are those of the input.
use Rattle.std.proofs.Common.{◌≡◌, false, subst, ◌∙◌, inl}
use Rattle.markdown_values.specs.strings.Text.{cow_text}
use Rattle.markdown_scanners_tree.specs.scanners.unescaping.Unescaping.{ArePieces, joined_meanings}
use Rattle.cmark_scan.specs.unescaping.EntityTexts.{entity_text}
use Rattle.cmark_scan.proofs.unescaping.unescape_report.Goals as goal

pub returns : goal.returns
returns c =
    let text = c.in-Ok.ensures.cases in
    let pieces = c.in_ok-unescaped.ensures.pieces in
    let are : ArePieces false entity_text c.args.bytes.now pieces.0 =
    subst (λ t. ArePieces false entity_text t pieces.0) (c.from.ensures.0 ∙ text.0) pieces.1 in
    let means : cow_text c.in_ok-unescaped.unescaped ≡ joined_meanings pieces.0 = c.in_ok-unescaped.ensures.text pieces.0 pieces.1 in
    inl (text.1, (pieces.0, are, λ i. record { printed = means i; status = 0 }))
