use Rattle.std.proofs.Common.{◌≡◌, ◌-◌, ◌∷◌, ◌++◌, take, drop, sym, ap, ◌∙◌}
use Rattle.markdown_scanners_tree.specs.scanners.TextLines.{lines_of}
use Rattle.markdown_blocks.specs.content.Left.{first_parts}
use Rattle.markdown_blocks.specs.content.Parts.{later_parts, later_offset, part_at, text_offset}
use Rattle.markdown_blocks.specs.content.Seen.{seen_part}
use Rattle.markdown_blocks.proofs.content.parts.FirstLemmas.{absent_in}
use Rattle.markdown_blocks.proofs.content.parts.NextLemmas.{in_lines, next_part}
use Rattle.markdown_blocks.proofs.content.parts.Parts.next.Goals as goal

pub invariant_of-self-2 : goal.invariant_of-self-2
invariant_of-self-2 c =
    let lines = c.args.self.now.lines.now in
    let p = c.text_part-part in
    record {
      first_in = absent_in lines c.args.self.now.first c.in_default.is;
      ending_in = (c.written.ensures.inside lines (in_lines lines c.args.self.now.read c.in_ok-line.more c.in_ok-line.line.now c.in_ok-line.ensures.line
          p.result.columns p.result.filler p.result.offset p.result.bytes.now p.ensures.inside p.ensures.bytes)).1;
    }

pub returns-clause-some : goal.returns-clause-some
returns-clause-some c =
    let s = c.args.self.now in
    let k = s.cut.kind in
    let outer = s.cut.outer.now.containers in
    let n = c.in_ok-line.ensures.line in
    let part = seen_part c.text_part-part.result in
    let is : part ≡ part_at (text_offset k s.cut.indent (later_offset k outer c.in_ok-line.line.now)) =
    c.text_part-part.ensures.part ∙ ap (λ p. part_at (text_offset k s.cut.indent p)) c.later_offset-offset.ensures.offset in
    let next = next_part s.lines.now s.read c.in_ok-line.more c.in_ok-line.line.now n k outer s.cut.indent s.count part c.if-self.false is in
    let left = later_parts k outer s.cut.indent s.read.bytes (take (s.count - s.read.lines) (lines_of (drop s.read.bytes s.lines.now))) in
    let rest = later_parts k outer s.cut.indent c.in_ok-line.more.bytes
    (take (s.count - c.in_ok-line.more.lines) (lines_of (drop c.in_ok-line.more.bytes s.lines.now))) in
    ap (λ f. first_parts f ++ (first_parts s.ending ++ left)) c.in_default.is
    ∙ ap (λ f. first_parts f ++ left) c.in_default-ending.is
    ∙ next
    ∙ ap (λ ps. ps ++ rest) (sym c.written.ensures.parts)
    ∙ ap (λ f. seen_part c.written.result.0 ∷ (first_parts f ++ (first_parts c.written.result.1 ++ rest))) (sym c.in_default.is)

pub returns-clause-inside : goal.returns-clause-inside
returns-clause-inside c =
    let lines = c.args.self.now.lines.now in
    let p = c.text_part-part in
    (c.written.ensures.inside lines (in_lines lines c.args.self.now.read c.in_ok-line.more c.in_ok-line.line.now c.in_ok-line.ensures.line
    p.result.columns p.result.filler p.result.offset p.result.bytes.now p.ensures.inside p.ensures.bytes)).0
