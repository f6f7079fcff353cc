use Rattle.std.proofs.Common.{◌<◌, length, of_calls, arith, reverse, subst}
use Rattle.std.proofs.lemmas.List.{get_or-reverse, length-reverse}
use Rattle.markdown_scanners_tree.proofs.scanners.runs.AcceptedLemmas.{pre-next, FoldsTo-next, IsAccepted-all, IsAccepted-stop}
use Rattle.markdown_scanners_tree.proofs.scanners.runs.scan_rev_while.Goals as goal

pub f-requires : goal.f-requires
f-requires g c =
    let bytes = c.args.bytes.now in
    let inside : c.loop-count.count < length bytes = omega arith in
    subst (λ b. goal.F-pre g c.loop-count.f b) (get_or-reverse bytes c.loop-count.count 0 inside)
    (pre-next (λ p b r q. goal.F-step g p b r q) _ _ (reverse bytes) _ c.loop-count.invariant.1 (λ p b. goal.F-pre g p b) c.requires
    (omega (arith, inside, length-reverse bytes)))

pub loop-count-preserved : goal.loop-count-preserved
loop-count-preserved g c =
    let bytes = c.args.bytes.now in
    let inside : c.loop-count.count < length bytes = omega arith in (
      omega arith,
      FoldsTo-next (λ p b r q. goal.F-step g p b r q) _ _ (reverse bytes) _ c.loop-count.invariant.1 _
          (omega (arith, inside, length-reverse bytes))
          (rw (get_or-reverse bytes c.loop-count.count 0 inside) (search of_calls)),
    )

pub returns-clause-accepted : goal.returns-clause-accepted
returns-clause-accepted g c =
    let same = length-reverse c.args.bytes.now in
    IsAccepted-all _ _ _ _ _ c.loop-count.invariant.1 (omega (arith, same)) (omega (arith, same))

pub returns-then-not-f-clause-accepted : goal.returns-then-not-f-clause-accepted
returns-then-not-f-clause-accepted g c =
    let bytes = c.args.bytes.now in
    let inside : c.loop-count.count < length bytes = omega arith in
    IsAccepted-stop (λ p b r q. goal.F-step g p b r q) _ _ (reverse bytes) _ c.loop-count.invariant.1 c.f.new.self
    (omega (arith, inside, length-reverse bytes))
    (rw (get_or-reverse bytes c.loop-count.count 0 inside) (search of_calls))
