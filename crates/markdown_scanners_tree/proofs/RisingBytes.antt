-- The bytes that are kept of a source stand there in their order.
use Rattle.std.proofs.Common.{ℕ, List, [], ◌∷◌, ◌++◌, ◌+◌, ◌≤◌, ◌==◌, drop, length, inl, inr, arith}
use Rattle.std.proofs.lemmas.Bool.{cases_Bool}
use Rattle.markdown_scanners_tree.specs.Ascii.{line_feed, carriage_return}
use Rattle.markdown_scanners_tree.specs.Bytes.{begins_with, is_line_ending}
use Rattle.markdown_scanners_tree.specs.Kept.{KeptByte, kept_head, kept_return, kept_line, kept_from, return_len, line_len}
use Rattle.markdown_scanners_tree.specs.scanners.html_tag.KeptTag.{offset_after}

-- kept bytes stand one after the other, from the offset on
abbrev pub Rises : ℕ → List KeptByte → Type 0
Rises offset [] = Unit {0}
Rises offset (k ∷ ks) = (offset ≤ k.offset) × Rises (k.offset + 1) ks

rises_lower : (low offset : ℕ) (ks : List KeptByte) → low ≤ offset → Rises offset ks → Rises low ks
rises_lower low offset [] below rises = tt
rises_lower low offset (k ∷ ks) below rises = (omega (arith, below, rises.0), rises.1)

rises_append : (offset : ℕ) (ks ls : List KeptByte) → Rises offset ks → Rises (offset_after offset ks) ls → Rises offset (ks ++ ls)
rises_append offset [] ls rises later = later
rises_append offset (k ∷ ks) ls rises later = (rises.0, rises_append (k.offset + 1) ks ls rises.1 later)

pub rises_front : (offset : ℕ) (ks ls : List KeptByte) → Rises offset (ks ++ ls) → Rises offset ks
rises_front offset [] ls rises = tt
rises_front offset (k ∷ ks) ls rises = (rises.0, rises_front (k.offset + 1) ks ls rises.1)

pub rises_length : (offset : ℕ) (ks : List KeptByte) → Rises offset ks → offset + length ks ≤ offset_after offset ks
rises_length offset [] rises = omega arith
rises_length offset (k ∷ ks) rises = omega (arith, rises.0, rises_length (k.offset + 1) ks rises.1)

head_rises : (offset : ℕ) (source : List ℕ) → Rises offset (kept_head offset source)
head_rises offset [] = tt
head_rises offset (b ∷ bs) = elim (cases_Bool (is_line_ending b)) [
  | inl ends ↦ rw ends tt
  | inr goes ↦ rw goes (omega arith, head_rises (offset + 1) bs)
]

-- a line's bytes, with the offset after them
abbrev IsLineRising : ℕ → List KeptByte → ℕ → Type 0
IsLineRising offset ks size = Rises offset ks × (offset_after offset ks ≤ offset + size)

return_rises : (offset : ℕ) (bs : List ℕ) → IsLineRising offset (kept_return offset bs) (return_len bs)
return_rises offset bs = elim (cases_Bool (begins_with (λ b. b == line_feed) bs)) [
  | inl feed ↦ rw feed ((omega arith, (omega arith, tt)), omega arith)
  | inr alone ↦ rw alone ((omega arith, tt), omega arith)
]

line_rises : (offset : ℕ) (source : List ℕ) → IsLineRising offset (kept_line offset source) (line_len source)
line_rises offset [] = (tt, omega arith)
line_rises offset (b ∷ bs) = elim (cases_Bool (b == line_feed)) [
  | inl feed ↦ rw feed ((omega arith, tt), omega arith)
  | inr other ↦ elim (cases_Bool (b == carriage_return)) [
    | inl return ↦ rw (other, return) (return_rises offset bs)
    | inr inside ↦
        (let later = line_rises (offset + 1) bs in
        rw (other, inside) ((omega arith, later.0), omega (arith, later.1)))
  ]
]

pub kept_rises : (offset : ℕ) (source skips : List ℕ) → Rises offset (kept_from offset source skips)
kept_rises offset source [] = head_rises offset source
kept_rises offset source (skip ∷ skips) =
    let line = line_rises offset source in
    let next = offset + (line_len source + skip) in
    rises_append offset (kept_line offset source) _ line.0
    (rises_lower _ next _ (omega (arith, line.1)) (kept_rises next (drop (line_len source + skip) source) skips))
