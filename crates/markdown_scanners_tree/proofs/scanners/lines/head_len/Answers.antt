use Rattle.std.proofs.Common.{◌≡◌, ℕ, ◌+◌, ◌-◌, ◌≤◌, ◌<◌, List, length, take, drop, ap, ◌∙◌, arith}
use Rattle.std.specs.List.{prefix_len}
use Rattle.std.proofs.lemmas.List.{length-drop, drop-drop}
use Rattle.std.proofs.lemmas.List.Sums.{prefix_len-le-length}
use Rattle.markdown_scanners_tree.proofs.PrefixLemmas.{from_offset, prefix_len-first}
use Rattle.markdown_scanners_tree.proofs.scanners.lines.BlankLemmas.{ends_no_line}
use Rattle.markdown_scanners_tree.proofs.scanners.lines.LaneLemmas.{at_most, ends_within, goes_past}
use Rattle.markdown_scanners_tree.proofs.scanners.lines.head_len.Goals as goal

-- the bytes that the vector was loaded from
room : (bytes : List ℕ) (from : ℕ) → from < length bytes - 16 → 16 ≤ length (drop from bytes)
room bytes from enough = omega (arith, length-drop from bytes)

counted : (bytes : List ℕ) (from before : ℕ)
    → before ≡ prefix_len ends_no_line (take 16 (take (length bytes - from) (drop from bytes)))
    → before ≡ prefix_len ends_no_line (take 16 (drop from bytes))
counted bytes from before is = is ∙ ap (λ rest. prefix_len ends_no_line (take 16 rest)) (from_offset bytes from)

pub overflow_add-from : goal.overflow_add-from
overflow_add-from c =
    let bytes = c.args.bytes.now in
    let from = c.loop-from.from in
    let few = at_most ends_no_line (drop from bytes) 16 c.count_in_line-before.result (room bytes from c.loop-from-test.true)
    (counted bytes from c.count_in_line-before.result c.count_in_line-before.ensures) in
    omega (arith, few, c.loop-from-test.true)

pub returns-then-from-ge-FAR-clause-head : goal.returns-then-from-ge-FAR-clause-head
returns-then-from-ge-FAR-clause-head c =
    let bytes = c.args.bytes.now in
    let from = c.loop-from.from in
    omega (arith, c.loop-from.invariant.passed, c.far_head_len.ensures.head, ap (prefix_len ends_no_line) (from_offset bytes from))

pub returns-then-before-lt-HALF_LANES-clause-head : goal.returns-then-before-lt-HALF_LANES-clause-head
returns-then-before-lt-HALF_LANES-clause-head c =
    let bytes = c.args.bytes.now in
    let from = c.loop-from.from in
    let ends = ends_within ends_no_line (drop from bytes) 16 c.count_in_line-before.result (room bytes from c.loop-from-test.true)
    (counted bytes from c.count_in_line-before.result c.count_in_line-before.ensures) c.if-before-lt-HALF_LANES.true in
    omega (arith, ends, c.loop-from.invariant.passed)

pub loop-from-preserved : goal.loop-from-preserved
loop-from-preserved c =
    let bytes = c.args.bytes.now in
    let from = c.loop-from.from in
    let before = c.count_in_line-before.result in
    let enough = room bytes from c.loop-from-test.true in
    let is = counted bytes from before c.count_in_line-before.ensures in
    let few = at_most ends_no_line (drop from bytes) 16 before enough is in
    let past = goes_past ends_no_line (drop from bytes) 16 before enough is (omega arith) in
    let rest : prefix_len ends_no_line (drop before (drop from bytes))
    ≡ prefix_len ends_no_line (drop (from + before) bytes) =
    ap (prefix_len ends_no_line) (drop-drop before from bytes) in
    record {
      inside = omega (arith, few, c.loop-from-test.true);
      passed = omega (arith, c.loop-from.invariant.passed, past, rest);
    }

-- what stands before the last vector has been read
pub returns-clause-head : goal.returns-clause-head
returns-clause-head c =
    let bytes = c.args.bytes.now in
    let from = c.loop-from.from in
    let last = length bytes - 16 in
    let first = prefix_len-first ends_no_line last bytes in
    let read : last ≤ prefix_len ends_no_line bytes = omega (arith, c.loop-from.invariant.passed, c.loop-from-test.false) in
    let past = goes_past ends_no_line bytes last last (omega arith) (omega (arith, first, read)) (omega arith) in
    let is = counted bytes last c.count_in_line.result c.count_in_line.ensures in
    let long = length-drop last bytes in
    omega (arith, past, is, long, prefix_len-first ends_no_line 16 (drop last bytes), prefix_len-le-length ends_no_line (drop last bytes))
