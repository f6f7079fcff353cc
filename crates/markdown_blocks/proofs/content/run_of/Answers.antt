use Rattle.std.proofs.Common.{◌≡◌, ◌∷◌, ◌∙◌, ap, arith, subst, sym}
use Rattle.markdown_blocks.specs.content.Content.{joined}
use Rattle.markdown_blocks.specs.content.Left.{parts_left}
use Rattle.markdown_blocks.specs.content.Parts.{AreOneRun, GoOn}
use Rattle.markdown_blocks.specs.content.Seen.{seen_part}
use Rattle.markdown_blocks.proofs.content.RunLemmas.{go_first, go_next, not_cut, offsets_first, offsets_next}
use Rattle.markdown_blocks.proofs.content.RunLemmas.{run_first, run_inside, run_joined, run_next, run_part}
use Rattle.markdown_blocks.proofs.content.run_of.Goals as goal
use Rattle.markdown_blocks.proofs.content.run_of.Goals.{then-next-gt0-via-then-next-gt0, then-next-gt0-via-else-next-gt0+then-next-end}

pub loop-next-init : goal.loop-next-init
loop-next-init c =
    let p = seen_part c.in-Some.part in
    let none : p.columns ≡ 0 = omega (arith, c.if-part-gt0.false) in
    let inside = c.in-Some.ensures.inside in (
      c.in-Some.ensures.lines,
      omega arith,
      inside.0,
      run_first c.args.parts.lines.now (parts_left c.args.parts) (parts_left c.next.new.self) p none inside c.in-Some.ensures.some,
      (go_first (parts_left c.args.parts) (parts_left c.next.new.self) p none c.in-Some.ensures.some).0,
      (go_first (parts_left c.args.parts) (parts_left c.next.new.self) p none c.in-Some.ensures.some).1,
      offsets_first (parts_left c.args.parts) (parts_left c.next.new.self) p none c.in-Some.ensures.some,
    )

pub loop-next-preserved : goal.loop-next-preserved
loop-next-preserved c =
    let p = seen_part c.in-Some-next.next in
    let l = c.loop-next in
    let none : p.columns ≡ 0 = omega (arith, c.if-next-gt0.false) in
    let inside = rw l.invariant.0 at c.in-Some-next.ensures.inside in (
      c.in-Some-next.ensures.lines ∙ l.invariant.0,
      omega (arith, l.invariant.1),
      omega (arith, inside.0, c.if-next-end.false),
      run_next c.args.parts.lines.now (parts_left c.args.parts) (parts_left l.rest) (parts_left c.next-in-loop-next.new.self) p c.in-Some.part.offset l.end none
          c.if-next-end.false inside l.invariant.1 c.in-Some-next.ensures.some l.invariant.3,
      λ on. l.invariant.4 ((go_next (parts_left l.rest) (parts_left c.next-in-loop-next.new.self) p l.end none c.if-next-end.false c.in-Some-next.ensures.some).0 on),
      λ on. (go_next (parts_left l.rest) (parts_left c.next-in-loop-next.new.self) p l.end none c.if-next-end.false c.in-Some-next.ensures.some).1 (l.invariant.5 on),
      offsets_next (parts_left c.args.parts) (parts_left l.rest) (parts_left c.next-in-loop-next.new.self) p c.in-Some.part.offset l.end none
          c.if-next-end.false l.invariant.1 c.in-Some-next.ensures.some l.invariant.6,
    )

pub returns-then-next-gt0-clause-inside : goal.returns-then-next-gt0-clause-inside
returns-then-next-gt0-clause-inside c =
    run_inside c.args.parts.lines.now c.in-Some.part.offset c.loop-next.end c.loop-next.invariant.1 c.loop-next.invariant.2

-- what is read breaks the run
pub returns-then-next-gt0-clause-joined : goal.returns-then-next-gt0-clause-joined
returns-then-next-gt0-clause-joined c =
    let l = c.loop-next in
    let all = parts_left c.args.parts in
    let begin = c.in-Some.part.offset in
    let same : parts_left c.with.result ≡ parts_left l.rest = c.with.ensures.parts ∙ sym c.in-Some-next.ensures.some in
    let broken : ¬ AreOneRun all = λ one.
    let first = not_cut one.0 all (parts_left c.next.new.self) (seen_part c.in-Some.part) c.in-Some.ensures.some one.1 in
    let there : GoOn begin all = subst (λ n. GoOn n all) (sym first.1) one.1 in
    let next = not_cut l.end (parts_left l.rest) (parts_left c.next-in-loop-next.new.self) (seen_part c.in-Some-next.next)
    c.in-Some-next.ensures.some (l.invariant.5 there) in
    elim c.then-next-gt0.branch [
      | then-next-gt0-via-then-next-gt0 w ↦ omega (arith, w.if-next-gt0.true, next.0)
      | then-next-gt0-via-else-next-gt0+then-next-end w ↦ w.if-next-end.true next.1
    ] in
    ap (λ ps. joined (run_part c.args.parts.lines.now begin l.end ∷ ps)) same
    ∙ run_joined c.args.parts.lines.now all (parts_left l.rest) begin l.end l.invariant.1 l.invariant.2 l.invariant.3 l.invariant.6 l.invariant.4 broken
