use Rattle.std.proofs.Common.{take, arith}
use Rattle.std.proofs.lemmas.List.{get_or-take, length-take-le}
use Rattle.markdown_scanners_tree.proofs.scanners.lines.EndingLanes.{none_ends, some_ends}
use Rattle.markdown_scanners_tree.proofs.scanners.lines.count_in_line.Goals as goal

pub returns-then-mask-eq0 : goal.returns-then-mask-eq0
returns-then-mask-eq0 c =
    let bytes = c.args.bytes.now in
    none_ends (take 16 bytes) (length-take-le 16 bytes c.requires)
    (λ k less. omega (arith, get_or-take 16 bytes k 0 less, c.type_inv.bytes k)) c.if-mask-eq0.true

pub returns-else-mask-eq0 : goal.returns-else-mask-eq0
returns-else-mask-eq0 c =
    let bytes = c.args.bytes.now in
    some_ends (take 16 bytes) (length-take-le 16 bytes c.requires)
    (λ k less. omega (arith, get_or-take 16 bytes k 0 less, c.type_inv.bytes k)) c.if-mask-eq0.false
