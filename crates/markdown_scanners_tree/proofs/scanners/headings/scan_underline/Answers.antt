use Rattle.markdown_scanners_tree.proofs.scanners.headings.HeadingLemmas.{underline-scanned, underline-open}
use Rattle.markdown_scanners_tree.proofs.scanners.headings.OneHeading.{one_underline}
use Rattle.markdown_scanners_tree.proofs.scanners.headings.scan_underline.Goals as goal

pub returns-clause-found : goal.returns-clause-found
returns-clause-found c = underline-scanned _ _ _ _ _ c.requires.of_level c.requires.begins
    c.begun_run-run.ensures.run c.in_ok-blank.ensures.found

pub returns-in_err-blank-clause-none : goal.returns-in_err-blank-clause-none
returns-in_err-blank-clause-none c = rw c.from_residual.ensures (underline-open _ _ _ c.requires.begins
    c.begun_run-run.ensures.run c.in_err-blank.ensures.found)

pub returns-in_err-blank-clause-found : goal.returns-in_err-blank-clause-found
returns-in_err-blank-clause-found c = rw c.from_residual.ensures (λ r. underline-open _ _ _ c.requires.begins
    c.begun_run-run.ensures.run c.in_err-blank.ensures.found r.0 r.1)

pub returns-clause-only : goal.returns-clause-only
returns-clause-only c =
    λ other is. one_underline c.args.bytes.now other.0 other.1 _ _ is (returns-clause-found c)
