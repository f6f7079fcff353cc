-- What is left of a line, and how it is written byte by byte. (CommonMark 0.31.2, section 2.2, tabs)
use Rattle.std.proofs.Common.{ℕ, List, [], ◌∷◌, ◌++◌, ◌≡◌, ◌==◌, ◌≤◌, ◌<◌, ◌+◌, ◌-◌, ◌*◌, ◌/◌, ◌∙◌, cond, true, false, sym, ap, append_assoc, length, drop, take, get_or, replicate, arith}
use Rattle.std.proofs.lemmas.List.{drop_more, length-append, length-drop, length-replicate, take_at}
use Rattle.std.proofs.lemmas.Slice.{drop-append-drop}
use Rattle.std.proofs.Math.Seq.{take-length}
use Rattle.markdown_scanners_tree.specs.Ascii.{space}
use Rattle.markdown_scanners_tree.specs.Bytes.{is_line_ending}
use Rattle.markdown_scanners_tree.specs.Columns.{column_after, written_byte, written_out}
use Rattle.markdown_scanners_tree.specs.line.State.{LineState, rest_of}
use Rattle.markdown_scanners_tree.proofs.line.ColumnLemmas.{bool_cases, written-cons, written-end, written_byte-length}

-- one byte more is written out
pub written_next : (bytes : List ℕ) (i c : ℕ) → i < length bytes → is_line_ending (get_or bytes i 0) ≡ false →
    let b = get_or bytes i 0 in
    written_out c (drop i bytes) ≡ written_byte c b ++ written_out (column_after c b) (drop (i + 1) bytes)
written_next bytes i c inside goes =
    ap (written_out c) (drop_more bytes i 0 inside) ∙ written-cons c (get_or bytes i 0) (drop (i + 1) bytes) goes

-- from the line ending on all stays as it is
pub written_end : (bytes : List ℕ) (i c : ℕ) → i < length bytes → is_line_ending (get_or bytes i 0) ≡ true
    → written_out c (drop i bytes) ≡ drop i bytes
written_end bytes i c inside ends =
    ap (written_out c) (drop_more bytes i 0 inside) ∙ written-end c (get_or bytes i 0) (drop (i + 1) bytes) ends
    ∙ sym (drop_more bytes i 0 inside)

-- What is written at the front of a buffer, whose other bytes are as they were, and a text more.
pub put_next : (made text old : List ℕ) (at : ℕ) → length made ≡ at
    → take at (made ++ drop at old) ++ (text ++ drop (at + length text) (made ++ drop at old))
    ≡ (made ++ text) ++ drop (at + length text) old
put_next made text old at size =
    let front : take at (made ++ drop at old) ≡ made = take_at made (drop at old) at size in
    let back : drop (at + length text) (made ++ drop at old) ≡ drop (at + length text) old =
    drop-append-drop at old made (at + length text) (omega arith) size in
    rw (front, back) (sym (append_assoc made text (drop (at + length text) old)))

-- What is still to be written has room in the buffer, as all has.
pub room_left : (made later old whole : List ℕ) (at : ℕ) → length made ≡ at → made ++ later ≡ whole
    → length whole ≤ length old → at + length later ≤ length (made ++ drop at old)
room_left made later old whole at size is fits =
    omega (arith, size, ap length is, length-append made later, fits, length-append made (drop at old), length-drop at old)

-- all of a rest
pub whole_rest : (bytes : List ℕ) (i : ℕ) → take (length bytes - i) (drop i bytes) ≡ drop i bytes
whole_rest bytes i = ap (λ n. take n (drop i bytes)) (sym (length-drop i bytes)) ∙ take-length (drop i bytes)

-- the column of what follows a byte is at most four further
after-within : (c b : ℕ) → column_after c b ≤ c + 4
after-within c b = elim (b == 9) as (λ v. cond v (4 * (c / 4 + 1)) (c + 1) ≤ c + 4) [
  | true ↦ omega arith
  | false ↦ omega arith
]

-- a byte is written out to four bytes at most
written_out-within : (bytes : List ℕ) (c : ℕ) → length (written_out c bytes) ≤ 4 * length bytes
written_out-within [] c = omega arith
written_out-within (b ∷ bytes) c =
    bool_cases (is_line_ending b)
    (λ ends. rw (written-end c b bytes ends) (omega arith))
    (λ goes.
    let next = column_after c b in
    let written = written_byte c b in
    let later = written_out-within bytes next in
    let joined = length-append written (written_out next bytes) in
    rw (written-cons c b bytes goes) (omega (arith, later, joined, written_byte-length c b, after-within c b)))

-- What is left of a line has at most four bytes for each byte from the offset on, beside those of the pending columns.
pub rest_within : (s : LineState) → length (rest_of s) ≤ s.pending + 4 * (length s.bytes - s.offset)
rest_within s =
    let left = drop s.offset s.bytes in
    omega (
      arith,
      length-append (replicate s.pending space) (written_out s.phase left),
      length-replicate {A = ℕ} s.pending space,
      length-drop s.offset s.bytes,
      written_out-within left s.phase,
    )
