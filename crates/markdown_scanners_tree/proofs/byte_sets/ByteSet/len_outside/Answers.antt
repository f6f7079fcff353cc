use Rattle.std.proofs.Common.{◌≡◌, ℕ, ◌+◌, ◌-◌, ◌≤◌, ◌<◌, List, length, take, drop, ap, ◌∙◌, arith}
use Rattle.std.specs.List.{prefix_len}
use Rattle.std.proofs.lemmas.List.{length-drop, drop-drop}
use Rattle.std.proofs.lemmas.List.Sums.{prefix_len-le-length}
use Rattle.markdown_scanners_tree.proofs.PrefixLemmas.{from_offset, prefix_len-first}
use Rattle.markdown_scanners_tree.specs.declared.byte_sets.ByteSet.{ByteSet}
use Rattle.markdown_scanners_tree.proofs.byte_sets.SetLanes.{is_outside}
use Rattle.markdown_scanners_tree.proofs.scanners.lines.LaneLemmas.{at_most, ends_within, goes_past}
use Rattle.markdown_scanners_tree.proofs.byte_sets.ByteSet.len_outside.Goals as goal

-- the bytes that the vector was loaded from
room : (bytes : List ℕ) (from : ℕ) → from < length bytes - 16 → 16 ≤ length (drop from bytes)
room bytes from enough = omega (arith, length-drop from bytes)

counted : (set : ByteSet) (bytes : List ℕ) (from before : ℕ)
    → before ≡ prefix_len (is_outside set) (take 16 (take (length bytes - from) (drop from bytes)))
    → before ≡ prefix_len (is_outside set) (take 16 (drop from bytes))
counted set bytes from before is = is ∙ ap (λ rest. prefix_len (is_outside set) (take 16 rest)) (from_offset bytes from)

pub overflow_add-from : goal.overflow_add-from
overflow_add-from c =
    let set = c.args.self.now in
    let bytes = c.args.bytes.now in
    let from = c.loop-from.from in
    let before = c.lanes_outside-before.result in
    let few = at_most (is_outside set) (drop from bytes) 16 before (room bytes from c.loop-from-test.true)
    (counted set bytes from before c.lanes_outside-before.ensures) in
    omega (arith, few, c.loop-from-test.true)

pub returns-then-before-lt-LANES-clause-count : goal.returns-then-before-lt-LANES-clause-count
returns-then-before-lt-LANES-clause-count c =
    let set = c.args.self.now in
    let bytes = c.args.bytes.now in
    let from = c.loop-from.from in
    let before = c.lanes_outside-before.result in
    let ends = ends_within (is_outside set) (drop from bytes) 16 before (room bytes from c.loop-from-test.true)
    (counted set bytes from before c.lanes_outside-before.ensures) c.if-before-lt-LANES.true in
    omega (arith, ends, c.loop-from.invariant.passed)

pub loop-from-preserved : goal.loop-from-preserved
loop-from-preserved c =
    let set = c.args.self.now in
    let bytes = c.args.bytes.now in
    let from = c.loop-from.from in
    let before = c.lanes_outside-before.result in
    let enough = room bytes from c.loop-from-test.true in
    let is = counted set bytes from before c.lanes_outside-before.ensures in
    let few = at_most (is_outside set) (drop from bytes) 16 before enough is in
    let past = goes_past (is_outside set) (drop from bytes) 16 before enough is (omega arith) in
    let rest : prefix_len (is_outside set) (drop before (drop from bytes)) ≡ prefix_len (is_outside set) (drop (from + before) bytes) =
    ap (prefix_len (is_outside set)) (drop-drop before from bytes) in
    record {
      inside = omega (arith, few, c.loop-from-test.true);
      passed = omega (arith, c.loop-from.invariant.passed, past, rest);
    }

-- the last vector
few_of_last : (set : ByteSet) (bytes : List ℕ) (n : ℕ) → 16 ≤ length bytes
    → n ≡ prefix_len (is_outside set) (take 16 (take (length bytes - (length bytes - 16)) (drop (length bytes - 16) bytes))) → n ≤ 16
few_of_last set bytes n enough is =
    let last = length bytes - 16 in
    at_most (is_outside set) (drop last bytes) 16 n (omega (arith, length-drop last bytes, enough)) (counted set bytes last n is)

pub overflow_add-result : goal.overflow_add-result
overflow_add-result c =
    let few = few_of_last c.args.self.now c.args.bytes.now c.lanes_outside.result c.if-bytes-lt-LANES.false c.lanes_outside.ensures in
    omega (arith, few, c.loop-from.auto.from-fits, c.loop-from-test.false)

pub returns-clause-within : goal.returns-clause-within
returns-clause-within c =
    let few = few_of_last c.args.self.now c.args.bytes.now c.lanes_outside.result c.if-bytes-lt-LANES.false c.lanes_outside.ensures in
    omega (arith, few, c.if-bytes-lt-LANES.false)

-- what stands before the last vector has been read
pub returns-clause-count : goal.returns-clause-count
returns-clause-count c =
    let p = is_outside c.args.self.now in
    let bytes = c.args.bytes.now in
    let from = c.loop-from.from in
    let last = length bytes - 16 in
    let first = prefix_len-first p last bytes in
    let read : last ≤ prefix_len p bytes = omega (arith, c.loop-from.invariant.passed, c.loop-from-test.false) in
    let past = goes_past p bytes last last (omega arith) (omega (arith, first, read)) (omega arith) in
    let is = counted c.args.self.now bytes last c.lanes_outside.result c.lanes_outside.ensures in
    let long = length-drop last bytes in
    omega (arith, past, is, long, prefix_len-first p 16 (drop last bytes), prefix_len-le-length p (drop last bytes))
