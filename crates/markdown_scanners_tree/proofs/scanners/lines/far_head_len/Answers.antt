use Rattle.std.proofs.Common.{sym}
use Rattle.markdown_scanners_tree.proofs.scanners.lines.LineLemmas.{head-found, head-not_found}
use Rattle.markdown_scanners_tree.proofs.scanners.lines.far_head_len.Goals as goal

pub returns-in-Some-clause-head : goal.returns-in-Some-clause-head
returns-in-Some-clause-head c = sym (head-found c.args.bytes.now c.in-Some.offset c.in-Some.ensures)

pub returns-in-None-clause-head : goal.returns-in-None-clause-head
returns-in-None-clause-head c = sym (head-not_found c.args.bytes.now c.in-None.ensures)
