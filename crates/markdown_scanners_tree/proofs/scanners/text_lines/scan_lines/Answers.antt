use Rattle.markdown_scanners_tree.proofs.scanners.text_lines.LineSteps.{lines_joined, lines_filled}
use Rattle.markdown_scanners_tree.proofs.scanners.text_lines.scan_lines.Goals as goal

pub returns-clause-joined : goal.returns-clause-joined
returns-clause-joined c = lines_joined c.args.bytes.now

pub returns-clause-filled : goal.returns-clause-filled
returns-clause-filled c = lines_filled c.args.bytes.now
