-- The part of the next line, and where it stands.
use Rattle.std.proofs.Common.{ℕ, suc, ◌+◌, ◌-◌, ◌<◌, ◌≤◌, ◌≡◌, List, ◌++◌, length, take, drop, sym, ap, ◌∙◌, arith, length-append}
use Rattle.std.proofs.lemmas.List.{drop-append-le, drop-drop, length-drop}
use Rattle.std.specs.List.{concat}
use Rattle.markdown_scanners_tree.specs.scanners.TextLines.{lines_of}
use Rattle.markdown_scanners_tree.proofs.ForCallers.{lines_joined}
use Rattle.markdown_blocks.specs.content.Parts.{Part, later_parts, later_offset, moved, part_at, text_offset, written}
use Rattle.markdown_blocks.specs.content.Seen.{IsIn}
use Rattle.markdown_blocks.specs.declared.blocks.BlockKind.{BlockKind}
use Rattle.markdown_blocks.specs.declared.containers.Container.{Container}
use Rattle.markdown_blocks.specs.declared.taken.Extent.{Extent}
use Rattle.markdown_blocks.specs.taken.Lines.{IsNext}

module _ (text : List ℕ) (read more : Extent) (line : List ℕ) (n : IsNext text read line more) where
  -- the line stands before what is left after it
  pub stands : drop read.bytes text ≡ line ++ drop more.bytes text
  stands = sym (lines_joined (drop read.bytes text)) ∙ ap concat n.parts ∙ ap (λ b. line ++ b) (lines_joined (drop more.bytes text))

  pub more_bytes : more.bytes ≡ read.bytes + length line
  more_bytes =
      let sizes : length (drop read.bytes text) ≡ length line + length (drop more.bytes text) =
      ap length stands ∙ length-append line (drop more.bytes text) in
      omega (arith, sizes, length-drop read.bytes text, length-drop more.bytes text, n.within, n.further)

  pub in_lines : (columns filler offset : ℕ) (bytes : List ℕ) → offset ≤ length line → bytes ≡ drop offset line
      → IsIn text (record { columns = columns; filler = filler; offset = read.bytes + offset; bytes = bytes })
  in_lines columns filler offset bytes inside is =
      let size : length bytes ≡ length line - offset = ap length is ∙ length-drop offset line in
      let end : read.bytes + offset + length bytes ≡ more.bytes = omega (arith, size, inside, more_bytes) in (
        omega (arith, end, n.within),
        sym (drop-drop offset read.bytes text) ∙ ap (drop offset) stands ∙ drop-append-le offset line (drop more.bytes text) inside
            ∙ ap (λ b. b ++ drop more.bytes text) (sym is) ∙ ap (λ m. bytes ++ drop m text) (sym end),
      )

  pub next_part : (kind : BlockKind) (outer : List Container) (indent count : ℕ) (part : Part) → read.lines < count
      → part ≡ part_at (text_offset kind indent (later_offset kind outer line))
      → later_parts kind outer indent read.bytes (take (count - read.lines) (lines_of (drop read.bytes text)))
      ≡ written kind (moved read.bytes part)
      ++ later_parts kind outer indent more.bytes (take (count - more.lines) (lines_of (drop more.bytes text)))
  next_part kind outer indent count part fewer is =
      let left : count - read.lines ≡ suc (count - more.lines) = omega (arith, fewer, n.counted) in
      ap (λ k. later_parts kind outer indent read.bytes (take k (lines_of (drop read.bytes text)))) left
      ∙ ap (λ ls. later_parts kind outer indent read.bytes (take (suc (count - more.lines)) ls)) n.parts
      ∙ ap (λ p. written kind (moved read.bytes p) ++ later_parts kind outer indent (read.bytes + length line)
      (take (count - more.lines) (lines_of (drop more.bytes text)))) (sym is)
      ∙ ap (λ b. written kind (moved read.bytes part)
      ++ later_parts kind outer indent b (take (count - more.lines) (lines_of (drop more.bytes text)))) (sym more_bytes)
