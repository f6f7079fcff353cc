-- What of a block's lines begins with a byte of its content.
use Rattle.std.proofs.Common.{ℕ, true, false, ◌==◌, List, [], ◌∷◌, ◌≡◌, ◌<◌, ◌≤◌, ◌-◌, length, take, drop, refl, sym, ap, ◌∙◌, arith}
use Rattle.std.proofs.lemmas.Bool.{eqb-true, le-ltb, lt-ltb}
use Rattle.std.proofs.lemmas.List.{length-take-le}
use Rattle.std.proofs.Math.Seq.{drop-nil}
use Rattle.std.specs.List.{concat}
use Rattle.markdown_scanners_tree.proofs.ForCallers.{first_line-taken, lines_joined}
use Rattle.markdown_scanners_tree.specs.Bytes.{line_length}
use Rattle.markdown_scanners_tree.specs.scanners.TextLines.{lines_of}
use Rattle.markdown_blocks.specs.link_definitions.Lent.{from_byte}

none_there : (offset : ℕ) (content : List (List ℕ)) → from_byte offset content [] ≡ []
none_there offset [] = refl
none_there offset (words ∷ content) = refl

here : (offset : ℕ) (words line : List ℕ) (content lines : List (List ℕ)) → offset < length words
    → from_byte offset (words ∷ content) (line ∷ lines) ≡ drop (length line - (length words - offset)) (concat (line ∷ lines))
here offset words line content lines inside = rw (lt-ltb offset (length words) inside) refl

later : (offset : ℕ) (words line : List ℕ) (content lines : List (List ℕ)) → length words ≤ offset
    → from_byte offset (words ∷ content) (line ∷ lines) ≡ from_byte (offset - length words) content lines
later offset words line content lines after = rw (le-ltb offset (length words) after) refl

-- where no line is left of the content
pub from_end : (offset : ℕ) (content lines : List ℕ) → (length content == 0) ≡ true → from_byte offset (lines_of content) (lines_of lines) ≡ lines
from_end offset [] lines none = lines_joined lines
from_end offset (b ∷ content) lines none = absurd (omega (arith, eqb-true (length (b ∷ content)) 0 none))

pub some_left : (content : List ℕ) → (length content == 0) ≡ false → 0 < length content
some_left [] none = cc
some_left (b ∷ content) none = omega arith

-- the first of the lines that are left of a content and of its block, by their lengths
module _ (content lines : List ℕ) (n m : ℕ) (some : 0 < length content) (is_line : n ≡ line_length content) (within : n ≤ length content)
    (is_other : m ≡ line_length lines) (inside : m ≤ length lines) where
  content_lines : lines_of content ≡ take n content ∷ lines_of (drop n content)
  content_lines = first_line-taken content n some is_line

  size : length (take n content) ≡ n
  size = length-take-le n content within

  -- where the offset is in that line
  pub from_line : (offset : ℕ) → offset < n → from_byte offset (lines_of content) (lines_of lines) ≡ drop (m - (n - offset)) lines
  from_line offset low = by lines is_other inside
    where
      by : (bytes : List ℕ) → m ≡ line_length bytes → m ≤ length bytes
          → from_byte offset (lines_of content) (lines_of bytes) ≡ drop (m - (n - offset)) bytes
      by [] is fits = none_there offset (lines_of content) ∙ sym (drop-nil (m - (n - offset)))
      by (b ∷ bs) is fits =
          let block_lines = first_line-taken (b ∷ bs) m (omega arith) is in
          let other_size = length-take-le m (b ∷ bs) fits in
          ap (λ cs. from_byte offset cs (lines_of (b ∷ bs))) content_lines
          ∙ ap (from_byte offset (take n content ∷ lines_of (drop n content))) block_lines
          ∙ here offset (take n content) (take m (b ∷ bs)) (lines_of (drop n content)) (lines_of (drop m (b ∷ bs))) (omega (arith, low, size))
          ∙ ap (λ k. drop (k - (length (take n content) - offset)) (concat (take m (b ∷ bs) ∷ lines_of (drop m (b ∷ bs))))) other_size
          ∙ ap (λ k. drop (m - (k - offset)) (concat (take m (b ∷ bs) ∷ lines_of (drop m (b ∷ bs))))) size
          ∙ ap (drop (m - (n - offset))) (ap concat (sym block_lines) ∙ lines_joined (b ∷ bs))

  -- where it is not
  pub from_later : (offset : ℕ) → n ≤ offset
      → from_byte (offset - n) (lines_of (drop n content)) (lines_of (drop m lines)) ≡ from_byte offset (lines_of content) (lines_of lines)
  from_later offset high = by lines is_other inside
    where
      by : (bytes : List ℕ) → m ≡ line_length bytes → m ≤ length bytes
          → from_byte (offset - n) (lines_of (drop n content)) (lines_of (drop m bytes)) ≡ from_byte offset (lines_of content) (lines_of bytes)
      by [] is fits =
          ap (λ rest. from_byte (offset - n) (lines_of (drop n content)) (lines_of rest)) (drop-nil m)
          ∙ none_there (offset - n) (lines_of (drop n content)) ∙ sym (none_there offset (lines_of content))
      by (b ∷ bs) is fits =
          let block_lines = first_line-taken (b ∷ bs) m (omega arith) is in
          sym (
          ap (λ cs. from_byte offset cs (lines_of (b ∷ bs))) content_lines
          ∙ ap (from_byte offset (take n content ∷ lines_of (drop n content))) block_lines
          ∙ later offset (take n content) (take m (b ∷ bs)) (lines_of (drop n content)) (lines_of (drop m (b ∷ bs))) (omega (arith, high, size))
          ∙ ap (λ k. from_byte (offset - k) (lines_of (drop n content)) (lines_of (drop m (b ∷ bs)))) size
          )
