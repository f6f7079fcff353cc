use Rattle.std.proofs.Common.{ap, ◌∙◌, drop}
use Rattle.std.proofs.lemmas.List.{take_rest}
use Rattle.markdown_scanners_tree.specs.Bytes.{is_at_line_end}
use Rattle.markdown_scanners_tree.proofs.scanners.titles.BlankSteps.{blank_at}
use Rattle.markdown_scanners_tree.proofs.scanners.titles.is_blank.Goals as goal

pub returns : goal.returns
returns c =
    let bytes = c.args.bytes.now in
    c.is_at_line_end.ensures
    ∙ (ap is_at_line_end (take_rest bytes c.scan_whitespace_no_nl.result
    ∙ ap (λ k. drop k bytes) c.scan_whitespace_no_nl.ensures.run) ∙ blank_at bytes)
