use Rattle.std.proofs.Common.{arith, sym, refl}
use Rattle.markdown_scanners_tree.proofs.scanners.links.PointedLemmas.{pointed_escape, pointed_single, pointed_refused, pointed_open, pointed_here}
use Rattle.markdown_scanners_tree.proofs.scanners.links.pointed_len.Goals as goal
use Rattle.markdown_scanners_tree.proofs.scanners.links.pointed_len.Goals.{then-loop-i-test+else-bytes-i-ne62, else-loop-i-test}

pub loop-i-preserved-then-starts_escape : goal.loop-i-preserved-then-starts_escape
loop-i-preserved-then-starts_escape c =
    pointed_escape c.loop-i.i c.args.bytes.now c.loop-i.invariant (c.if-starts_escape.ensures.two refl)
    (sym c.if-starts_escape.ensures.value)

pub returns-then-refuses_pointed-clause-found : goal.returns-then-refuses_pointed-clause-found
returns-then-refuses_pointed-clause-found c =
    pointed_refused c.loop-i.i c.args.bytes.now c.loop-i.invariant c.loop-i-test.true
    (sym c.if-starts_escape.ensures.value) (sym c.if-refuses_pointed.ensures) c.if-bytes-i-ne62.true

pub loop-i-preserved : goal.loop-i-preserved
loop-i-preserved c =
    pointed_single c.loop-i.i c.args.bytes.now c.loop-i.invariant c.loop-i-test.true
    (sym c.if-starts_escape.ensures.value) (sym c.if-refuses_pointed.ensures) c.if-bytes-i-ne62.true

pub returns-then-i-bytes-clause-found : goal.returns-then-i-bytes-clause-found
returns-then-i-bytes-clause-found c = elim c.loop-i-test.branch [
  | then-loop-i-test+else-bytes-i-ne62 w ↦
      pointed_here c.loop-i.i c.args.bytes.now c.loop-i.invariant c.if-i-bytes.true w.if-bytes-i-ne62.false
  | else-loop-i-test w ↦ absurd (omega (arith, c.if-i-bytes.true, w.loop-i-test.false))
]

pub returns-else-i-bytes-clause-found : goal.returns-else-i-bytes-clause-found
returns-else-i-bytes-clause-found c = pointed_open c.loop-i.i c.args.bytes.now c.loop-i.invariant c.if-i-bytes.false
