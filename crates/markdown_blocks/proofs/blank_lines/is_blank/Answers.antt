use Rattle.std.proofs.Common.{drop, is_some, sym, ap, ◌∙◌}
use Rattle.markdown_scanners_tree.specs.Bytes.{line_ending}
use Rattle.markdown_blocks.proofs.blank_lines.BlankLemmas.{blank_by}
use Rattle.markdown_blocks.proofs.taken.TakenLemmas.{slice_after}
use Rattle.markdown_blocks.proofs.blank_lines.is_blank.Goals as goal

pub returns : goal.returns
returns c =
    let line = c.args.line.now in
    let n = c.scan_spaces_and_tabs-space.result in
    c.is_some.ensures ∙ ap is_some (c.scan_eol.ensures.ending ∙ ap line_ending (slice_after line n))
    ∙ ap (λ k. is_some (line_ending (drop k line))) c.scan_spaces_and_tabs-space.ensures.run ∙ sym (blank_by line)
