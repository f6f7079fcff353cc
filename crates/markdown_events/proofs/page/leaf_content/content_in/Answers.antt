use Rattle.std.proofs.Common.{◌∙◌, ap, arith, drop, refl, sym, take}
use Rattle.markdown_scanners_tree.specs.scanners.TextLines.{lines_of}
use Rattle.markdown_blocks.specs.content.Content.{IsContent, content_with}
use Rattle.markdown_blocks.specs.content.Parts.{one_part}
use Rattle.markdown_blocks.proofs.ForCallers.{content_bytes}
use Rattle.markdown_events.proofs.page.leaf_content.PlaceLemmas.{content_placed}
use Rattle.markdown_events.proofs.page.leaf_content.content_in.Goals as goal

pub line_content-requires : goal.line_content-requires
line_content-requires c =
    omega (arith, c.requires.text.within, c.args.leaf.ends, c.saturating_sub-offset.ensures)

-- the text of a paragraph of one line is its content
line_is : (c : goal.After-line_content) → IsContent c.args.leaf.kind c.args.here.containers.now c.args.here.kept
    (lines_of (take c.args.leaf.bytes (drop c.args.leaf.start c.args.page.now))) c.line_content.result
line_is c =
    let parts = one_part c.saturating_sub-offset.result c.args.leaf.text.now in
    let paragraph = c.is_plain_line.ensures.paragraph c.if-is_plain_line.true in
    record {
      parts = parts;
      are_parts = rw c.saturating_sub-offset.ensures (c.requires.text.line paragraph
          (c.is_plain_line.ensures.plain c.if-is_plain_line.true) (c.is_plain_line.ensures.line c.if-is_plain_line.true));
      is_content = c.line_content.ensures ∙ ap (λ kind. content_with kind parts) (sym paragraph);
    }

pub returns-then-is_plain_line-clause-content : goal.returns-then-is_plain_line-clause-content
returns-then-is_plain_line-clause-content c = line_is c

pub returns-then-is_plain_line-clause-offsets : goal.returns-then-is_plain_line-clause-offsets
returns-then-is_plain_line-clause-offsets c =
    let lines = take c.args.leaf.bytes (drop c.args.leaf.start c.args.page.now) in
    content_placed c.args.leaf.kind c.args.here.containers.now c.args.here.kept c.args.leaf.start c.args.leaf.bytes c.args.page.now lines
    c.line_content.result refl c.args.leaf.ends (line_is c)
    (content_bytes c.args.leaf.kind c.args.here.containers.now c.args.here.kept lines c.line_content.result (line_is c))

pub returns-clause-offsets : goal.returns-clause-offsets
returns-clause-offsets c =
    content_placed c.args.leaf.kind c.args.here.containers.now c.args.here.kept c.args.leaf.start c.args.leaf.bytes c.as_bytes.result.now
    c.lines_in-lines.result.now c.in_ok-content.content c.lines_in-lines.ensures c.args.leaf.ends c.in_ok-content.ensures.content
    c.in_ok-content.ensures.bytes
