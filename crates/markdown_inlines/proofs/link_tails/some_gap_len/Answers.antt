use Rattle.markdown_scanners_tree.proofs.ForCallers.{cut_after_gap, gap_scanned}
use Rattle.markdown_inlines.proofs.link_tails.some_gap_len.Goals as goal

pub returns-clause-gap : goal.returns-clause-gap
returns-clause-gap c =
    gap_scanned c.args.bytes.now c.scan_spaces_and_tabs-spaces.result c.unwrap_or.result c.scan_spaces_and_tabs.result
    c.scan_eol.result c.scan_spaces_and_tabs-spaces.ensures.run c.scan_eol.ensures.ending c.unwrap_or.ensures
    c.scan_spaces_and_tabs.ensures.run

pub returns-clause-after : goal.returns-clause-after
returns-clause-after c = cut_after_gap c.args.bytes.now _ (returns-clause-gap c)
