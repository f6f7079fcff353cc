use Rattle.std.proofs.Common.{sym}
use Rattle.markdown_scanners_tree.proofs.scanners.lines.BlankLemmas.{blank_line-is, blank_line-none}
use Rattle.markdown_scanners_tree.proofs.ScanLemmas.{IsBlankLine-scanned, IsBlankLine-not_scanned}
use Rattle.markdown_scanners_tree.proofs.scanners.lines.scan_blank_line.Goals as goal

pub returns-clause-found : goal.returns-clause-found
returns-clause-found c = IsBlankLine-scanned _ _ _ c.scan_whitespace_no_nl-i.ensures.run c.in_ok-n.ensures.ending

pub returns-in_err-n-clause-found : goal.returns-in_err-n-clause-found
returns-in_err-n-clause-found c = rw c.from_residual.ensures
    (IsBlankLine-not_scanned _ _ c.scan_whitespace_no_nl-i.ensures.run c.in_err-n.ensures.ending)

pub returns-clause-line : goal.returns-clause-line
returns-clause-line c =
    sym (blank_line-is _ _ (IsBlankLine-scanned _ _ _ c.scan_whitespace_no_nl-i.ensures.run c.in_ok-n.ensures.ending))

pub returns-in_err-n-clause-line : goal.returns-in_err-n-clause-line
returns-in_err-n-clause-line c = rw c.from_residual.ensures (sym (blank_line-none _
    (IsBlankLine-not_scanned _ _ c.scan_whitespace_no_nl-i.ensures.run c.in_err-n.ensures.ending)))
