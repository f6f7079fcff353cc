use Rattle.std.proofs.Common.{sym, ◌∙◌}
use Rattle.markdown_scanners_tree.specs.Ascii.{space}
use Rattle.markdown_blocks.proofs.cells.CellLemmas.{ends_by_two}
use Rattle.markdown_blocks.proofs.cells.ends_separated.Goals as goal

pub returns-in-len2-up : goal.returns-in-len2-up
returns-in-len2-up c = c.separates-in-len2-up.ensures ∙ sym (ends_by_two space c.args.row.now c.in-len2-up.len_at_least)
