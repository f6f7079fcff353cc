use Rattle.std.proofs.Common.{suc, ◌≡◌, ◌-◌, ap, sym, ◌∙◌, arith}
use Rattle.markdown_blocks.specs.content.Parts.{after_markers}
use Rattle.markdown_blocks.proofs.kinds.KindLemmas.{not_given}
use Rattle.markdown_blocks.proofs.content.parts.PlaceLemmas.{marks-none, marks-some}
use Rattle.markdown_blocks.proofs.content.parts.first_offset.Goals as goal

pub returns-then-not-pass_marker-clause-offset : goal.returns-then-not-pass_marker-clause-offset
returns-then-not-pass_marker-clause-offset c =
    let l = c.loop-left in
    let more : l.left ≡ suc (l.left - 1) = omega (arith, c.loop-left-test.true) in
    let none = not_given c.if-not-pass_marker.true (λ t. t) in
    c.pass_marker.ensures.unchanged none ∙ sym (marks-none (l.left - 1) l.start (c.pass_marker.ensures.none none))
    ∙ ap (λ n. after_markers n l.start) (sym more) ∙ l.invariant.0

pub loop-left-preserved : goal.loop-left-preserved
loop-left-preserved c =
    let l = c.loop-left in
    let more : l.left ≡ suc (l.left - 1) = omega (arith, c.loop-left-test.true) in
    let some = c.pass_marker.ensures.passed c.if-not-pass_marker.false in (
      sym (marks-some (l.left - 1) l.start c.pass_marker.new.start some.0 some.1) ∙ ap (λ n. after_markers n l.start) (sym more) ∙ l.invariant.0,
      c.pass_marker.ensures.bytes,
    )
