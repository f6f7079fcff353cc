use Rattle.std.proofs.Common.{◌≡◌, ◌≤◌, ◌-◌, ◌+◌, ◌*◌}
use Rattle.markdown_scanners_tree.proofs.line.SpaceLemmas.{IsTakingAt}
use Rattle.markdown_scanners_tree.proofs.line.LineStart.scan_space_upto.Given as goal

abbrev pub invariant-loop-left : goal.invariant-loop-left
invariant-loop-left l =
    let now = l.self-inside in
    let old = l.initial.self-inside in
    let entry = l.fn.self in
    record {
      same : now.bytes ≡ old.bytes;
      text : now.bytes.now ≡ entry.bytes;
      none_before : now.breaks.none_before ≡ old.breaks.none_before;
      after_break : now.breaks.after_break ≡ old.breaks.after_break;
      bound : now.column ≤ 4 * now.offset + 3;
      taking : IsTakingAt entry.bytes entry.offset entry.phase (entry.pending - l.from_pending)
          (l.n - l.from_pending) now.offset now.column now.pending l.left;
    }

-- proposed from the loop's first test
abbrev pub decreases-loop-left : goal.decreases-loop-left
decreases-loop-left l = l.left
