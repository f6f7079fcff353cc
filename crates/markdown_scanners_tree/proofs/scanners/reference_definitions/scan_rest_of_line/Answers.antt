use Rattle.markdown_scanners_tree.proofs.SomeExactlyLemmas.{SomeExactly-from_none}
use Rattle.markdown_scanners_tree.proofs.scanners.reference_definitions.GapLemmas.{rest_scanned, rest_not_scanned, cut_after_rest}
use Rattle.markdown_scanners_tree.proofs.scanners.reference_definitions.scan_rest_of_line.Goals as goal

pub returns-in_err-ending-clause-found : goal.returns-in_err-ending-clause-found
returns-in_err-ending-clause-found c =
    SomeExactly-from_none _ c.from_residual.ensures
    (rest_not_scanned _ _ c.scan_spaces_and_tabs-spaces.ensures.run c.in_err-ending.ensures.ending)

pub returns-clause-found : goal.returns-clause-found
returns-clause-found c = rest_scanned _ _ _ c.scan_spaces_and_tabs-spaces.ensures.run c.in_ok-ending.ensures.ending

pub returns-clause-after : goal.returns-clause-after
returns-clause-after c = cut_after_rest _ _ _ c.scan_spaces_and_tabs-spaces.ensures.run c.in_ok-ending.ensures.ending
