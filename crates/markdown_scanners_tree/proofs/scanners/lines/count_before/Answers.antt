use Rattle.markdown_scanners_tree.proofs.scanners.lines.LaneLemmas.{none_equal, some_equal}
use Rattle.markdown_scanners_tree.proofs.scanners.lines.count_before.Goals as goal

pub returns-then-mask-eq0 : goal.returns-then-mask-eq0
returns-then-mask-eq0 c = none_equal c.args.byte c.args.bytes.now c.requires c.if-mask-eq0.true

pub returns-else-mask-eq0 : goal.returns-else-mask-eq0
returns-else-mask-eq0 c = some_equal c.args.byte c.args.bytes.now c.requires c.if-mask-eq0.false
