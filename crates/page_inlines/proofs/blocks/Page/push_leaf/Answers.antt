use Rattle.std.proofs.Common.{◌+◌, ◌-◌, ◌≡◌, true, take, drop, string_bytes, sym, ap, subst, ◌∙◌, arith}
use Rattle.markdown_scanners_tree.specs.scanners.TextLines.{lines_of}
use Rattle.markdown_blocks.specs.content.Content.{IsContent}
use Rattle.markdown_blocks.specs.events.Events.{seen_leaf}
use Rattle.page_inlines.specs.Labels.{setting_of}
use Rattle.page_inlines.specs.Lines.{has_inlines}
use Rattle.page_inlines.proofs.BlockLemmas.{content_offsets}
use Rattle.page_inlines.proofs.TextLemmas.{leaf_printed}
use Rattle.page_inlines.proofs.blocks.Page.push_leaf.Goals as goal

pub push_content-requires : goal.push_content-requires
push_content-requires c =
    content_offsets c.args.leaf.kind c.args.containers.now c.args.kept (lines_of c.part_of-lines.result.now) c.in_ok-content.content
    c.in_ok-content.ensures.content

pub returns : goal.returns
returns c =
    let page = c.args.self.now.bytes.now in
    let has : has_inlines c.args.leaf.kind ≡ true = sym c.if-not-has_inlines.ensures in
    let size : (c.args.leaf.start + c.args.leaf.bytes) - c.args.leaf.start ≡ c.args.leaf.bytes = omega arith in
    leaf_printed (setting_of c.args.self.now) page c.args.containers.now c.args.kept (seen_leaf c.args.leaf) c.in_ok-content.content
    (string_bytes c.args.out.now.text) (string_bytes c.push_block_line.new.text) (string_bytes c.push_content.new.out.text) c.push_content.result has
    (c.in_ok-push_block_line.ensures has)
    (subst (λ bytes. IsContent c.args.leaf.kind c.args.containers.now c.args.kept (lines_of bytes) c.in_ok-content.content)
    (c.part_of-lines.ensures ∙ ap (λ n. take n (drop c.args.leaf.start page)) size) c.in_ok-content.ensures.content)
    c.push_content.ensures
