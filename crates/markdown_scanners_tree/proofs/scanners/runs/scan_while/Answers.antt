use Rattle.std.proofs.Common.{◌<◌, length, of_calls, arith}
use Rattle.markdown_scanners_tree.proofs.scanners.runs.AcceptedLemmas.{pre-next, FoldsTo-next, IsAccepted-all, IsAccepted-stop}
use Rattle.markdown_scanners_tree.proofs.scanners.runs.scan_while.Goals as goal

pub f-requires : goal.f-requires
f-requires g c =
    pre-next (λ p b r q. goal.F-step g p b r q) _ _ _ _ c.loop-count.invariant.1 (λ p b. goal.F-pre g p b) c.requires (omega arith)

pub loop-count-preserved : goal.loop-count-preserved
loop-count-preserved g c =
    let inside : c.loop-count.count < length c.args.bytes.now = omega arith in (
      omega arith,
      FoldsTo-next (λ p b r q. goal.F-step g p b r q) _ _ _ _ c.loop-count.invariant.1 _ inside (search of_calls),
    )

pub returns-clause-accepted : goal.returns-clause-accepted
returns-clause-accepted g c = IsAccepted-all _ _ _ _ _ c.loop-count.invariant.1 (omega arith) (omega arith)

pub returns-then-not-f-clause-accepted : goal.returns-then-not-f-clause-accepted
returns-then-not-f-clause-accepted g c =
    IsAccepted-stop (λ p b r q. goal.F-step g p b r q) _ _ _ _ c.loop-count.invariant.1 c.f.new.self (omega arith)
    (search of_calls)
