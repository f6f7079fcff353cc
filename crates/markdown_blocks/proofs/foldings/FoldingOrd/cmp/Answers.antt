use Rattle.std.proofs.Common.{sym, ap, ◌∙◌, ◌<◌, arith}
use Rattle.std.specs.Cmp.Lexicographic.{nat_list_cmp_total}
use Rattle.std.specs.Ordering.{ordering_reverse}
use Rattle.markdown_blocks.specs.foldings.Fronts.{front_of}
use Rattle.markdown_blocks.specs.foldings.Texts.{bytes_of}
use Rattle.markdown_blocks.proofs.foldings.FrontLemmas.{by_front}
use Rattle.markdown_blocks.proofs.foldings.FoldingOrd.cmp.Goals as goal

pub returns-then-self-other-2 : goal.returns-then-self-other-2
returns-then-self-other-2 c =
    let one = bytes_of c.self.inside.text in
    let other = bytes_of c.other.inside.text in
    let less : front_of one < front_of other = omega (arith, c.self.invariant.0, c.other.invariant.0, c.if-self-other-2.true) in
    rw (← c.self.view_is, ← c.other.view_is) (sym (by_front 8 0 one other c.self.invariant.1 c.other.invariant.1 less))

pub returns-else-self-other-2 : goal.returns-else-self-other-2
returns-else-self-other-2 c =
    let one = bytes_of c.self.inside.text in
    let other = bytes_of c.other.inside.text in
    let less : front_of other < front_of one = omega (arith, c.self.invariant.0, c.other.invariant.0, c.if-self-other-2.false, c.if-self-other.false) in
    rw (← c.self.view_is, ← c.other.view_is)
    (ap ordering_reverse (sym (by_front 8 0 other one c.other.invariant.1 c.self.invariant.1 less))
    ∙ sym (nat_list_cmp_total.antisymm one other))
