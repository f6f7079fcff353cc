use Rattle.std.proofs.Common.{take}
use Rattle.std.proofs.lemmas.List.{length-take-le}
use Rattle.markdown_scanners_tree.proofs.byte_sets.SetLanes.{none_common, some_common}
use Rattle.markdown_scanners_tree.proofs.byte_sets.ByteSet.lanes_outside.Goals as goal

pub returns-then-mask-eq0 : goal.returns-then-mask-eq0
returns-then-mask-eq0 c =
    none_common c.args.self.now (take 16 c.args.bytes.now) c.by_low_half.result c.by_high_half.result
    (length-take-le 16 c.args.bytes.now c.requires) c.by_low_half.ensures.length c.by_high_half.ensures.length
    c.by_low_half.ensures.bits c.by_high_half.ensures.bits c.if-mask-eq0.true

pub returns-else-mask-eq0 : goal.returns-else-mask-eq0
returns-else-mask-eq0 c =
    some_common c.args.self.now (take 16 c.args.bytes.now) c.by_low_half.result c.by_high_half.result
    (length-take-le 16 c.args.bytes.now c.requires) c.by_low_half.ensures.length c.by_high_half.ensures.length
    c.by_low_half.ensures.bits c.by_high_half.ensures.bits c.if-mask-eq0.false
