use Rattle.std.proofs.Common.{arith}
use Rattle.markdown_blocks.proofs.content.parts.InnerLemmas.{none_left_out}
use Rattle.markdown_blocks.proofs.content.parts.count_inner.Goals as goal

pub returns-then-is_all_content : goal.returns-then-is_all_content
returns-then-is_all_content c =
    none_left_out c.args.kind c.args.outer.now.containers c.args.lines.now c.args.first _ (omega arith)
    (c.is_all_content.ensures c.if-is_all_content.true c.args.outer.now.containers)
