use Rattle.std.specs.Prelude.{true, length, ◌==◌}
use Rattle.std.proofs.Common.{[], ◌++◌, ap, ◌∙◌, append-nil}
use Rattle.markdown_blocks.proofs.content.SegmentLemmas.{seen, start}
use Rattle.markdown_blocks.proofs.content.cell.EscapeLemmas.{lent_runs}
use Rattle.markdown_blocks.proofs.content.cell.lent.Goals as goal

pub returns : goal.returns
returns c =
    let text = c.args.text.now in
    ap (λ b. seen (length b == 0) (text ++ b) (start c.args.source) c.new-2.result.items) c.new.ensures.items
    ∙ ap (λ ls. seen true (text ++ []) (start c.args.source) ls) c.new-2.ensures.items
    ∙ ap (λ t. seen true t (start c.args.source) []) (append-nil text)
    ∙ lent_runs text c.args.source c.requires.none
