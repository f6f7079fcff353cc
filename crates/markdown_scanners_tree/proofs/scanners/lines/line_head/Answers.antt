use Rattle.std.proofs.Common.{take, ap}
use Rattle.markdown_scanners_tree.proofs.scanners.lines.line_head.Goals as goal

pub returns-clause-head : goal.returns-clause-head
returns-clause-head c = ap (λ n. take n c.args.text.now) c.head_len.ensures.head
