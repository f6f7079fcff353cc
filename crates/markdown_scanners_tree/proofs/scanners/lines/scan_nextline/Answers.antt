use Rattle.std.proofs.Common.{◌≡◌, ℕ, ◌+◌, ◌-◌, ◌≤◌, List, length, take, drop, ap, ◌∙◌, arith}
use Rattle.std.specs.List.{prefix_len}
use Rattle.std.proofs.lemmas.List.{length-drop, drop-drop}
use Rattle.markdown_scanners_tree.specs.scanners.Lines.{is_no_line_feed}
use Rattle.markdown_scanners_tree.proofs.PrefixLemmas.{from_offset}
use Rattle.markdown_scanners_tree.proofs.ScanLemmas.{prefix_len-found, prefix_len-not_found}
use Rattle.markdown_scanners_tree.proofs.scanners.lines.LaneLemmas.{at_most, ends_within, goes_past}
use Rattle.markdown_scanners_tree.proofs.scanners.lines.scan_nextline.Goals as goal

-- the bytes that the vector was loaded from
room : (bytes : List ℕ) (from : ℕ) → 32 ≤ length bytes - from → 32 ≤ length (drop from bytes)
room bytes from enough = omega (arith, length-drop from bytes)

counted : (bytes : List ℕ) (from before : ℕ)
    → before ≡ prefix_len is_no_line_feed (take 32 (take (length bytes - from) (drop from bytes)))
    → before ≡ prefix_len is_no_line_feed (take 32 (drop from bytes))
counted bytes from before is = is ∙ ap (λ rest. prefix_len is_no_line_feed (take 32 rest)) (from_offset bytes from)

pub overflow_add-from : goal.overflow_add-from
overflow_add-from c =
    let bytes = c.args.bytes.now in
    let from = c.loop-from.from in
    let few = at_most is_no_line_feed (drop from bytes) 32 c.count_before-before.result (room bytes from c.loop-from-test.true)
    (counted bytes from c.count_before-before.result c.count_before-before.ensures) in
    omega (arith, few)

pub returns-then-before-lt-LANES-clause-next : goal.returns-then-before-lt-LANES-clause-next
returns-then-before-lt-LANES-clause-next c =
    let bytes = c.args.bytes.now in
    let from = c.loop-from.from in
    let ends = ends_within is_no_line_feed (drop from bytes) 32 c.count_before-before.result (room bytes from c.loop-from-test.true)
    (counted bytes from c.count_before-before.result c.count_before-before.ensures) c.if-before-lt-LANES.true in
    omega (arith, ends, c.loop-from.invariant.passed)

pub loop-from-preserved : goal.loop-from-preserved
loop-from-preserved c =
    let bytes = c.args.bytes.now in
    let from = c.loop-from.from in
    let before = c.count_before-before.result in
    let enough = room bytes from c.loop-from-test.true in
    let is = counted bytes from before c.count_before-before.ensures in
    let few = at_most is_no_line_feed (drop from bytes) 32 before enough is in
    let past = goes_past is_no_line_feed (drop from bytes) 32 before enough is (omega arith) in
    let rest : prefix_len is_no_line_feed (drop before (drop from bytes))
    ≡ prefix_len is_no_line_feed (drop (from + before) bytes) =
    ap (prefix_len is_no_line_feed) (drop-drop before from bytes) in
    record {
      inside = omega (arith, few);
      passed = omega (arith, c.loop-from.invariant.passed, past, rest);
    }

pub returns-in-Some-clause-next : goal.returns-in-Some-clause-next
returns-in-Some-clause-next c =
    let bytes = c.args.bytes.now in
    let from = c.loop-from.from in
    let first = c.in-Some.ensures.0 in
    let ends = prefix_len-found 10 (take (length bytes - from) (drop from bytes)) c.in-Some.offset c.in-Some.ensures in
    let same = ap (prefix_len is_no_line_feed) (from_offset bytes from) in
    let long = ap (length {A = ℕ}) (from_offset bytes from) in
    omega (arith, first.high, ends, same, long, length-drop from bytes, c.loop-from.invariant.passed)

pub returns-in-None-clause-next : goal.returns-in-None-clause-next
returns-in-None-clause-next c =
    let bytes = c.args.bytes.now in
    let from = c.loop-from.from in
    let ends = prefix_len-not_found 10 (take (length bytes - from) (drop from bytes)) c.in-None.ensures in
    let same = ap (prefix_len is_no_line_feed) (from_offset bytes from) in
    let long = ap (length {A = ℕ}) (from_offset bytes from) in
    omega (arith, ends, same, long, length-drop from bytes, c.loop-from.invariant.passed)
