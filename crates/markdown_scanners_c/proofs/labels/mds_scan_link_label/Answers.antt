use Rattle.std.proofs.Common.{inr}
use Rattle.markdown_scanners_c.proofs.labels.mds_scan_link_label.Goals as goal

pub returns-clause-label : goal.returns-clause-label
returns-clause-label c after stand ascii = inr (c.if-start-bytes.false, c.label_at.ensures.label after stand ascii)
