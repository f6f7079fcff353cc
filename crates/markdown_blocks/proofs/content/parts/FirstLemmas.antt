-- The parts of a block, by its first line.
use Rattle.std.proofs.Common.{ℕ, ◌+◌, ◌-◌, ◌≤◌, ◌≡◌, List, [], ◌∷◌, ◌++◌, length, take, drop, Option, Some, None, refl, sym, ap, ◌∙◌, subst, arith}
use Rattle.std.proofs.Common.{append_assoc, length-append}
use Rattle.std.proofs.lemmas.List.{drop-append-le}
use Rattle.markdown_values.specs.declared.values.HeadingLevel.{HeadingLevel}
use Rattle.markdown_scanners_tree.specs.line.State.{LineState, space_within}
use Rattle.markdown_scanners_tree.specs.scanners.TextLines.{lines_of}
use Rattle.markdown_blocks.specs.content.Parts.{AreInner, AreParts, ArePartsAt, Part, first_offset, heading_part, later_parts, part_at, text_offset}
use Rattle.markdown_blocks.specs.content.Parts.{written}
use Rattle.markdown_blocks.specs.content.Seen.{IsFirstIn, IsIn, seen_part}
use Rattle.markdown_blocks.specs.declared.blocks.BlockKind.{BlockKind}
use Rattle.markdown_blocks.specs.declared.blocks.BlockKind.TheVariants.{Blank, Break, Heading, Setext, Indented, Fenced, Html, Table, Definition, Paragraph}
use Rattle.markdown_blocks.specs.declared.containers.Container.{Container}
use Rattle.markdown_blocks.specs.declared.content.parts.LinePart.{LinePart}
use Rattle.markdown_blocks.specs.declared.taken.Extent.{Extent}
use Rattle.markdown_blocks.specs.taken.Lines.{IsNext, IsTaken}
use Rattle.markdown_blocks.proofs.content.parts.NextLemmas.{in_lines, more_bytes, stands}

pub none_in : (lines : List ℕ) → IsFirstIn lines None
none_in lines x is = cc

pub absent_in : (lines : List ℕ) (first : Option LinePart) → first ≡ None → IsFirstIn lines first
absent_in lines first none = λ x is. cc

pub some_in : (lines : List ℕ) (p : LinePart) → IsIn lines (seen_part p) → IsFirstIn lines (Some p)
some_in lines p inside x is = let same : p ≡ x = cc in subst (λ (q : LinePart). IsIn lines (seen_part q)) same inside

module _ (lines line : List ℕ) (nothing read : Extent) (none : (text : List ℕ) → IsTaken text nothing []) (n : IsNext lines nothing line read) where
  no_bytes : nothing.bytes ≡ 0
  no_bytes = let few = (none []).within in omega (arith, few)

  pub first_bytes : read.bytes ≡ length line
  first_bytes = omega (arith, more_bytes lines nothing read line n, no_bytes)

  pub first_lines : lines_of lines ≡ line ∷ lines_of (drop read.bytes lines)
  first_lines = (none lines).parts ∙ n.parts

  -- what stands in the first line stands in the lines
  pub part_in : (p : Part) → p.offset ≤ length line → p.bytes ≡ drop p.offset line → IsIn lines p
  part_in p inside is =
      let at : nothing.bytes + p.offset ≡ p.offset = omega (arith, no_bytes) in
      subst (λ k. IsIn lines (record { columns = p.columns; filler = p.filler; offset = k; bytes = p.bytes })) at
      (in_lines lines nothing read line n p.columns p.filler p.offset p.bytes inside is)

  whole : lines ≡ line ++ drop read.bytes lines
  whole = ap (λ k. drop k lines) (sym no_bytes) ∙ stands lines nothing read line n

  pub lifted : (p : Part) → IsIn line p → IsIn lines p
  lifted p inside =
      let e = p.offset + length p.bytes in
      let rest = drop read.bytes lines in
      let size = ap length whole ∙ length-append line rest in
      let low : p.offset ≤ length line = omega (arith, inside.0) in (
        omega (arith, inside.0, size),
        ap (drop p.offset) whole ∙ drop-append-le p.offset line rest low ∙ ap (λ t. t ++ rest) inside.1
            ∙ append_assoc p.bytes (drop e line) rest ∙ ap (λ t. p.bytes ++ t) (sym (drop-append-le e line rest inside.0) ∙ sym (ap (drop e) whole)),
      )

  module _ (kind : BlockKind) (outer : List Container) (kept : ℕ) where
    at_first : (parts : List Part) → ArePartsAt kind outer (first_offset kept outer line) (length line) (lines_of (drop read.bytes lines)) parts
        → AreParts kind outer kept (lines_of lines) parts
    at_first parts are = subst (λ ls. AreParts kind outer kept ls parts) (sym first_lines) are

    pub by_first : (s : LineState) (parts : List Part) → s ≡ first_offset kept outer line
        → ArePartsAt kind outer s read.bytes (lines_of (drop read.bytes lines)) parts → AreParts kind outer kept (lines_of lines) parts
    by_first s parts at are =
        at_first parts (subst (λ b. ArePartsAt kind outer (first_offset kept outer line) b (lines_of (drop read.bytes lines)) parts) first_bytes
        (subst (λ z. ArePartsAt kind outer z read.bytes (lines_of (drop read.bytes lines)) parts) at are))

-- no later line is content
pub none_counted : (kind : BlockKind) (outer : List Container) (indent before k : ℕ) (lines : List (List ℕ)) → later_parts kind outer indent before
    (take (0 - k) lines) ≡ []
none_counted kind outer indent before k lines =
    let none : 0 - k ≡ 0 = omega arith in ap (λ m. later_parts kind outer indent before (take m lines)) none

pub text_parts : (kind : BlockKind) (outer : List Container) (s : LineState) (before : ℕ) (later inner : List (List ℕ)) (own : List Part)
    → ¬ (kind ≡ Blank) → ¬ (kind ≡ Break) → ((level : HeadingLevel) → ¬ (kind ≡ Heading level))
    → ((count byte : ℕ) → ¬ (kind ≡ Fenced count byte)) → ((columns : ℕ) → ¬ (kind ≡ Table columns)) → AreInner kind outer later inner
    → own ≡ written kind (part_at (text_offset kind 0 s)) → ArePartsAt kind outer s before later (own ++ later_parts kind outer 0 before inner)
text_parts Blank outer s before later inner own blank rule heading fenced table h is = absurd (blank refl)
text_parts Break outer s before later inner own blank rule heading fenced table h is = absurd (rule refl)
text_parts (Heading level) outer s before later inner own blank rule heading fenced table h is = absurd (heading level refl)
text_parts (Fenced count byte) outer s before later inner own blank rule heading fenced table h is = absurd (fenced count byte refl)
text_parts (Table columns) outer s before later inner own blank rule heading fenced table h is = absurd (table columns refl)
text_parts (Setext level) outer s before later inner own blank rule heading fenced table h is =
    (inner, h, ap (λ q. q ++ later_parts (Setext level) outer 0 before inner) is)
text_parts Indented outer s before later inner own blank rule heading fenced table h is =
    (inner, h, ap (λ q. q ++ later_parts Indented outer 0 before inner) is)
text_parts (Html kind) outer s before later inner own blank rule heading fenced table h is =
    (inner, h, ap (λ q. q ++ later_parts (Html kind) outer 0 before inner) is)
text_parts Definition outer s before later inner own blank rule heading fenced table h is =
    (inner, h, ap (λ q. q ++ later_parts Definition outer 0 before inner) is)
text_parts Paragraph outer s before later inner own blank rule heading fenced table h is =
    (inner, h, ap (λ q. q ++ later_parts Paragraph outer 0 before inner) is)

pub heading_at : (kind : BlockKind) (level : HeadingLevel) (outer : List Container) (s : LineState) (before k : ℕ) (later : List (List ℕ)) (p : Part)
    → kind ≡ Heading level → p ≡ heading_part s → ArePartsAt kind outer s before later (p ∷ later_parts kind outer 0 before (take (0 - k) later))
heading_at kind level outer s before k later p is here =
    subst (λ (t : BlockKind). ArePartsAt t outer s before later (p ∷ later_parts kind outer 0 before (take (0 - k) later))) (sym is)
    (ap (λ q. q ∷ later_parts kind outer 0 before (take (0 - k) later)) here
    ∙ ap (λ ps. heading_part s ∷ ps) (none_counted kind outer 0 before k later))

pub fenced_at : (kind : BlockKind) (count byte : ℕ) (outer : List Container) (s : LineState) (indent before : ℕ) (later inner : List (List ℕ))
    → kind ≡ Fenced count byte → indent ≡ space_within 4 s → AreInner kind outer later inner
    → ArePartsAt kind outer s before later (later_parts kind outer indent before inner)
fenced_at kind count byte outer s indent before later inner is columns h =
    let same : Fenced count byte ≡ kind = sym is in
    subst (λ (t : BlockKind). ArePartsAt t outer s before later (later_parts t outer indent before inner)) same
    (inner, subst (λ (t : BlockKind). AreInner t outer later inner) is h, ap (λ i. later_parts (Fenced count byte) outer i before inner) columns)
