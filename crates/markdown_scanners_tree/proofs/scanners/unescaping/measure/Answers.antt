use Rattle.std.proofs.Common.{◌≡◌, ◌+◌, ◌-◌, ◌^◌, min, arith, ap, refl, subst, ◌∙◌, length, take, drop}
use Rattle.std.proofs.lemmas.Bool.Decides.{nat_tests}
use Rattle.std.proofs.lemmas.List.{take_rest}
use Rattle.markdown_scanners_tree.specs.scanners.unescaping.private.FirstPiece.{IsFirstSize}
use Rattle.markdown_scanners_tree.proofs.scanners.unescaping.PieceLemmas.{measured_step, measured_pieces, measured_plain, measured_changed, measured_len}
use Rattle.markdown_scanners_tree.proofs.scanners.unescaping.measure.Goals as goal

pub loop-i-preserved : goal.loop-i-preserved
loop-i-preserved g c =
    let known = g.E.Entities.known c.args.entities.now in
    let text = c.args.text.now in
    let size = c.first_size-size.result in
    let at : take (length c.as_bytes-bytes.result.now - c.loop-i.i) (drop c.loop-i.i c.as_bytes-bytes.result.now)
    ≡ drop c.loop-i.i text =
    take_rest c.as_bytes-bytes.result.now c.loop-i.i ∙ ap (drop c.loop-i.i) c.as_bytes-bytes.ensures.value in
    let is =
    subst (λ bs. IsFirstSize c.args.is_in_table known bs size.source size.dropped size.inserted) at
    c.first_size-size.ensures.size in
    let inserted : c.saturating_add-inserted.result ≡ min (c.loop-i.inserted + size.inserted) (2 ^ 64 - 1) =
    omega (arith, c.saturating_add-inserted.ensures) in (
      measured_step c.args.is_in_table known text c.loop-i.i size.source size.dropped size.inserted c.loop-i.dropped
          c.loop-i.inserted c.saturating_add-inserted.result c.loop-i.invariant.1 c.loop-i.invariant.0 is inserted,
      omega (arith, inserted),
    )

pub returns-clause-pieces : goal.returns-clause-pieces
returns-clause-pieces g c =
    measured_pieces c.args.is_in_table (g.E.Entities.known c.args.entities.now) c.args.text.now c.loop-i.i
    c.loop-i.dropped c.loop-i.inserted c.loop-i.invariant.0
    (omega (arith, c.loop-i-test.false, c.as_bytes-bytes.ensures.len))

pub returns-clause-plain : goal.returns-clause-plain
returns-clause-plain g c = λ ps are none.
    measured_plain c.args.is_in_table (g.E.Entities.known c.args.entities.now) c.args.text.now c.loop-i.i
    c.loop-i.dropped c.loop-i.inserted c.loop-i.invariant.0
    (omega (arith, c.loop-i-test.false, c.as_bytes-bytes.ensures.len)) ps are (grind (arith, nat_tests, none))

pub returns-clause-changed : goal.returns-clause-changed
returns-clause-changed g c = λ ps are selves.
    let none =
    measured_changed c.args.is_in_table (g.E.Entities.known c.args.entities.now) c.args.text.now c.loop-i.i
    c.loop-i.dropped c.loop-i.inserted c.loop-i.invariant.0
    (omega (arith, c.loop-i-test.false, c.as_bytes-bytes.ensures.len)) ps are selves in
    rw none refl

pub returns-clause-len : goal.returns-clause-len
returns-clause-len g c = λ ps are.
    let len =
    measured_len c.args.is_in_table (g.E.Entities.known c.args.entities.now) c.args.text.now c.loop-i.i
    c.loop-i.dropped c.loop-i.inserted c.loop-i.invariant.0
    (omega (arith, c.loop-i-test.false, c.as_bytes-bytes.ensures.len)) ps are in
    omega (arith, c.saturating_add.ensures, c.as_bytes-bytes.ensures.len, len)
