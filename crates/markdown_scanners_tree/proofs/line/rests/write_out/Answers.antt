use Rattle.std.proofs.Common.{ℕ, List, ◌≡◌, ◌≤◌, ◌+◌, ◌++◌, drop, take, length, get_or, replicate, true, false, sym, ap, ◌∙◌, append_assoc, arith}
use Rattle.std.proofs.lemmas.List.{length-append, length-replicate}
use Rattle.markdown_scanners_tree.specs.Ascii.{space}
use Rattle.markdown_scanners_tree.specs.Bytes.{is_line_ending}
use Rattle.markdown_scanners_tree.specs.Columns.{column_after, written_byte, written_out}
use Rattle.markdown_scanners_tree.proofs.line.RestLemmas.{put_next, room_left, whole_rest, written_end, written_next}
use Rattle.markdown_scanners_tree.proofs.line.rests.write_out.Goals as goal

-- all that is written
abbrev all : ℕ → ℕ → List ℕ → List ℕ
all pending phase bytes = replicate pending space ++ written_out phase bytes

all_size : (pending phase : ℕ) (bytes : List ℕ)
    → length (all pending phase bytes) ≡ pending + length (written_out phase bytes)
all_size pending phase bytes =
    length-append (replicate pending space) (written_out phase bytes)
    ∙ ap (λ n. n + length (written_out phase bytes)) (length-replicate {A = ℕ} pending space)

pub put-requires-then-is_line_ending : goal.put-requires-then-is_line_ending
put-requires-then-is_line_ending c =
    let i = c.loop-index.invariant in
    let bytes = c.args.bytes.now in
    let at = c.loop-index.index in
    let whole = all c.args.pending c.args.phase bytes in
    let ends : is_line_ending (get_or bytes at 0) ≡ true = sym c.is_line_ending.ensures ∙ c.if-is_line_ending.true in
    let left = written_end bytes at c.loop-index.column c.loop-index-test.true ends in
    let fits : length whole ≤ length c.args.buffer.now =
    omega (arith, all_size c.args.pending c.args.phase bytes, c.requires.room) in
    let room = room_left i.0 (drop at bytes) c.args.buffer.now whole c.loop-index.at i.1
    (ap (λ text. i.0 ++ text) (sym left) ∙ i.3) fits in
    rw (whole_rest bytes at, i.2) room

pub returns-then-is_line_ending : goal.returns-then-is_line_ending
returns-then-is_line_ending c =
    let i = c.loop-index.invariant in
    let bytes = c.args.bytes.now in
    let at = c.loop-index.index in
    let text = drop at bytes in
    let whole = all c.args.pending c.args.phase bytes in
    let ends : is_line_ending (get_or bytes at 0) ≡ true = sym c.is_line_ending.ensures ∙ c.if-is_line_ending.true in
    let left = written_end bytes at c.loop-index.column c.loop-index-test.true ends in
    let joined : i.0 ++ text ≡ whole = ap (λ it. i.0 ++ it) (sym left) ∙ i.3 in
    let size : c.loop-index.at + length text ≡ c.args.pending + length (written_out c.args.phase bytes) =
    omega (arith, i.1, length-append i.0 text, ap length joined, all_size c.args.pending c.args.phase bytes) in
    let put : c.put-then-is_line_ending.new.buffer
    ≡ take c.loop-index.at (i.0 ++ drop c.loop-index.at c.args.buffer.now)
    ++ (text ++ drop (c.loop-index.at + length text) (i.0 ++ drop c.loop-index.at c.args.buffer.now)) =
    rw (whole_rest bytes at, i.2) at c.put-then-is_line_ending.ensures in
    put ∙ put_next i.0 text c.args.buffer.now c.loop-index.at i.1
    ∙ ap (λ it. it ++ drop (c.loop-index.at + length text) c.args.buffer.now) joined
    ∙ ap (λ n. whole ++ drop n c.args.buffer.now) size

pub put_byte-width-requires : goal.put_byte-width-requires
put_byte-width-requires c =
    let i = c.loop-index.invariant in
    let bytes = c.args.bytes.now in
    let at = c.loop-index.index in
    let b = get_or bytes at 0 in
    let column = c.loop-index.column in
    let whole = all c.args.pending c.args.phase bytes in
    let goes : is_line_ending b ≡ false = sym c.is_line_ending.ensures ∙ c.if-is_line_ending.false in
    let next = written_next bytes at column c.loop-index-test.true goes in
    let later = written_out (column_after column b) (drop (at + 1) bytes) in
    let fits : length whole ≤ length c.args.buffer.now =
    omega (arith, all_size c.args.pending c.args.phase bytes, c.requires.room) in
    let room = room_left i.0 (written_out column (drop at bytes)) c.args.buffer.now whole c.loop-index.at i.1 i.3 fits in
    rw i.2 (omega (arith, room, ap length next, length-append (written_byte column b) later))

pub loop-index-preserved : goal.loop-index-preserved
loop-index-preserved c =
    let i = c.loop-index.invariant in
    let bytes = c.args.bytes.now in
    let at = c.loop-index.index in
    let b = get_or bytes at 0 in
    let column = c.loop-index.column in
    let text = written_byte column b in
    let old = c.args.buffer.now in
    let goes : is_line_ending b ≡ false = sym c.is_line_ending.ensures ∙ c.if-is_line_ending.false in
    let next = written_next bytes at column c.loop-index-test.true goes in
    let wide = c.put_byte-width.ensures in
    let put : c.put_byte-width.new.buffer
    ≡ take c.loop-index.at (i.0 ++ drop c.loop-index.at old)
    ++ (text ++ drop (c.loop-index.at + length text) (i.0 ++ drop c.loop-index.at old)) =
    rw i.2 at wide.written in
    let later = drop (at + 1) bytes in (
      i.0 ++ text,
      omega (arith, length-append i.0 text, i.1, wide.width),
      put ∙ put_next i.0 text old c.loop-index.at i.1
          ∙ ap (λ n. (i.0 ++ text) ++ drop (c.loop-index.at + n) old) (sym wide.width),
      ap (λ n. (i.0 ++ text) ++ written_out n later) wide.column
          ∙ append_assoc i.0 text (written_out (column_after column b) later)
          ∙ ap (λ it. i.0 ++ it) (sym next) ∙ i.3,
      omega (arith, i.4, wide.within),
    )
