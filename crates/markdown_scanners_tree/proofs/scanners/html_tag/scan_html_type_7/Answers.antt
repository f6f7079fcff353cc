use Rattle.markdown_scanners_tree.proofs.scanners.html_tag.TagAlone.{tag_alone, no_tag_alone, not_alone}
use Rattle.markdown_scanners_tree.proofs.scanners.html_tag.OneTag.{one_tag_alone}
use Rattle.markdown_scanners_tree.proofs.scanners.html_tag.scan_html_type_7.Goals as goal

pub returns-in_err-tag-clause-found : goal.returns-in_err-tag-clause-found
returns-in_err-tag-clause-found c =
    rw c.from_residual.ensures (no_tag_alone _ (λ rest n a. a) c.args.bytes.now c.in_err-tag.ensures.none)

pub returns-in_err-scan_blank_line-clause-found : goal.returns-in_err-scan_blank_line-clause-found
returns-in_err-scan_blank_line-clause-found c =
    rw c.from_residual-in_err-scan_blank_line.ensures (not_alone _ (λ rest n a. a) c.args.bytes.now c.in_ok-tag.tag.end
    (λ prefix k. (c.in_ok-tag.ensures.only prefix k).1) c.in_err-scan_blank_line.ensures.found)

pub returns-clause-found : goal.returns-clause-found
returns-clause-found c =
    let found = c.in_ok-tag.ensures.found in
    tag_alone _ (λ rest n a. a) c.args.bytes.now c.in_ok-tag.tag.end c.in_ok-scan_blank_line.field-0 found.0 found.1
    found.2.1 c.in_ok-scan_blank_line.ensures.found

pub returns-clause-only : goal.returns-clause-only
returns-clause-only c = λ other is.
    one_tag_alone c.args.bytes.now other c.in_ok-tag.tag.end is (returns-clause-found c)
