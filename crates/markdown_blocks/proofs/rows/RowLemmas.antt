-- Rows of later lines, one after the other, and the delimiter row.
use Rattle.std.proofs.Common.{ℕ, true, false, ◌+◌, ◌≤◌, ◌≡◌, List, [], ◌∷◌, length, drop, refl, sym, ap, subst, ◌∙◌, inl, inr, arith}
use Rattle.markdown_values.specs.declared.values.Alignment.{Alignment}
use Rattle.markdown_scanners_tree.specs.line.State.{LineState}
use Rattle.markdown_scanners_tree.specs.scanners.TextLines.{lines_of}
use Rattle.markdown_scanners_tree.proofs.line.ColumnLemmas.{bool_cases}
use Rattle.markdown_blocks.specs.containers.Containers.{Rest, match_line, rest_at}
use Rattle.markdown_blocks.specs.declared.containers.Container.{Container}
use Rattle.markdown_blocks.specs.declared.taken.Extent.{Extent}
use Rattle.markdown_blocks.specs.delimiter_rows.DelimiterRows.{alignments_in, is_delimiter_row}
use Rattle.markdown_blocks.specs.rows.Rows.{AreAlignments, AreGiven, body_rows, later_rows, row_at}
use Rattle.markdown_blocks.specs.taken.Lines.{IsNext, IsTaken}
use Rattle.markdown_blocks.proofs.content.parts.NextLemmas.{more_bytes}

module _ (text : List ℕ) (read more : Extent) (line : List ℕ) (n : IsNext text read line more) (outer : List Container) where
  pub after_next : later_rows outer more.bytes (lines_of (drop more.bytes text)) ≡ body_rows outer read.bytes (lines_of (drop read.bytes text))
  after_next =
      ap (λ b. later_rows outer b (lines_of (drop more.bytes text))) (more_bytes text read more line n)
      ∙ sym (ap (body_rows outer read.bytes) n.parts)

  pub row_next : later_rows outer read.bytes (lines_of (drop read.bytes text))
      ≡ row_at read.bytes (match_line outer line).state ∷ later_rows outer more.bytes (lines_of (drop more.bytes text))
  row_next =
      ap (later_rows outer read.bytes) n.parts
      ∙ ap (λ b. row_at read.bytes (match_line outer line).state ∷ later_rows outer b (lines_of (drop more.bytes text)))
      (sym (more_bytes text read more line n))

  pub row_fits : read.bytes + length line ≤ length text
  row_fits = omega (arith, more_bytes text read more line n, n.within)

-- the first line
module _ (text : List ℕ) (taken read : Extent) (line : List ℕ) (nothing : (t : List ℕ) → IsTaken t taken []) (n : IsNext text taken line read) where
  pub first_line : lines_of text ≡ line ∷ lines_of (drop read.bytes text)
  first_line = (nothing text).parts ∙ n.parts

  pub first_bytes : read.bytes ≡ length line
  first_bytes = omega (arith, more_bytes text taken read line n, (nothing []).within)

  pub second_tells : (more : Extent) (delimiters : List ℕ) → IsNext text read delimiters more → (outer : List Container) (s : LineState) (rest : Rest)
      → s ≡ (match_line outer delimiters).state → rest ≡ rest_at s → (alignments : List Alignment) → AreGiven rest alignments
      → AreAlignments outer (lines_of text) alignments
  second_tells more delimiters next outer s rest at is alignments given =
      subst (λ ls. AreAlignments outer ls alignments) (sym (first_line ∙ ap (λ ls. line ∷ ls) next.parts))
      (subst (λ r. AreGiven r alignments) (is ∙ ap rest_at at) given)

  pub second_missing : (outer : List Container) (alignments : List Alignment) → lines_of (drop read.bytes text) ≡ [] → alignments ≡ []
      → AreAlignments outer (lines_of text) alignments
  second_missing outer alignments none empty =
      subst (λ ls. AreAlignments outer ls alignments) (sym (first_line ∙ ap (λ ls. line ∷ ls) none)) empty

pub first_missing : (text : List ℕ) (taken : Extent) → ((t : List ℕ) → IsTaken t taken []) → lines_of (drop taken.bytes text) ≡ []
    → lines_of text ≡ []
first_missing text taken nothing none = (nothing text).parts ∙ none

-- what a delimiter row tells
pub row_tells : (indent : ℕ) (text : List ℕ) (alignments : List Alignment) → ¬ (indent ≡ 4) → alignments ≡ alignments_in text
    → AreGiven (record { indent = indent; text = text }) alignments
row_tells indent text alignments near is =
    bool_cases (is_delimiter_row text)
    (λ row. inl (near, row, is))
    (λ other. inr (λ others columns. (let both : true ≡ false = sym columns.1 ∙ other in cc), is ∙ rw other refl))
