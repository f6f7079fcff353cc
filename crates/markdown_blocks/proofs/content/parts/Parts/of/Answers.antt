use Rattle.std.proofs.Common.{◌-◌, ◌∷◌, take, drop, ap, ◌∙◌}
use Rattle.markdown_scanners_tree.specs.scanners.TextLines.{lines_of}
use Rattle.markdown_blocks.specs.content.Left.{first_parts}
use Rattle.markdown_blocks.specs.content.Parts.{written}
use Rattle.markdown_blocks.specs.content.Seen.{seen_part}
use Rattle.markdown_blocks.proofs.content.parts.FirstLemmas.{by_first, fenced_at, heading_at, lifted, none_in, part_in, some_in, text_parts}
use Rattle.markdown_blocks.proofs.content.parts.Parts.of.Goals as goal

pub invariant_of-result : goal.invariant_of-result
invariant_of-result c = record {
  first_in = some_in c.args.lines.now c.heading_part.result (lifted c.args.lines.now c.in-Some.line.now c.nothing.result c.in-Some.read c.nothing.ensures
      c.in-Some.ensures.line (seen_part c.heading_part.result) c.heading_part.ensures.inside);
  ending_in = none_in c.args.lines.now;
}

pub returns-in-Heading-clause-parts : goal.returns-in-Heading-clause-parts
returns-in-Heading-clause-parts c =
    by_first c.args.lines.now c.in-Some.line.now c.nothing.result c.in-Some.read c.nothing.ensures c.in-Some.ensures.line c.args.kind
    c.args.outer.now.containers c.args.kept c.first_offset-start.result _ (rw c.containers.ensures at c.first_offset-start.ensures.offset)
    (heading_at c.args.kind _ c.args.outer.now.containers c.first_offset-start.result c.in-Some.read.bytes c.in-Some.read.lines
    (lines_of (drop c.in-Some.read.bytes c.args.lines.now)) (seen_part c.heading_part.result) c.in-Heading.is c.heading_part.ensures.part)

pub returns-in-Fenced-clause-parts : goal.returns-in-Fenced-clause-parts
returns-in-Fenced-clause-parts c =
    by_first c.args.lines.now c.in-Some.line.now c.nothing.result c.in-Some.read c.nothing.ensures c.in-Some.ensures.line c.args.kind
    c.args.outer.now.containers c.args.kept c.first_offset-start.result _ (rw c.containers.ensures at c.first_offset-start.ensures.offset)
    (fenced_at c.args.kind _ _ c.args.outer.now.containers c.first_offset-start.result c.scan_space_upto-indent.result c.in-Some.read.bytes
    (lines_of (drop c.in-Some.read.bytes c.args.lines.now)) (take (c.count_inner.result - c.in-Some.read.lines)
    (lines_of (drop c.in-Some.read.bytes c.args.lines.now))) c.in-Fenced.is c.scan_space_upto-indent.ensures.answer c.count_inner.ensures)

pub invariant_of-result-2 : goal.invariant_of-result-2
invariant_of-result-2 c =
    let lines = c.args.lines.now in
    let inside = c.written.ensures.inside lines (part_in lines c.in-Some.line.now c.nothing.result c.in-Some.read c.nothing.ensures c.in-Some.ensures.line
    (seen_part c.text_part.result) c.text_part.ensures.inside c.text_part.ensures.bytes) in
    record {
      first_in = some_in lines c.written.result.0 inside.0;
      ending_in = inside.1;
    }

pub returns-clause-parts : goal.returns-clause-parts
returns-clause-parts c =
    let k = c.in_default-kind in
    by_first c.args.lines.now c.in-Some.line.now c.nothing.result c.in-Some.read c.nothing.ensures c.in-Some.ensures.line c.args.kind
    c.args.outer.now.containers c.args.kept c.first_offset-start.result _ (rw c.containers.ensures at c.first_offset-start.ensures.offset)
    (text_parts c.args.kind c.args.outer.now.containers c.first_offset-start.result c.in-Some.read.bytes
    (lines_of (drop c.in-Some.read.bytes c.args.lines.now)) (take (c.count_inner-2.result - c.in-Some.read.lines)
    (lines_of (drop c.in-Some.read.bytes c.args.lines.now))) (seen_part c.written.result.0 ∷ first_parts c.written.result.1) k.not-Blank k.not-Break
    k.not-Heading k.not-Fenced k.not-Table c.count_inner-2.ensures (c.written.ensures.parts ∙ ap (written c.args.kind) c.text_part.ensures.part))
