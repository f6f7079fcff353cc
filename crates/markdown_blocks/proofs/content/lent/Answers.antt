use Rattle.std.proofs.Common.{◌≡◌, ◌++◌, [], take, ap, sym, ◌∙◌, append-nil}
use Rattle.std.specs.Prelude.{true, length, ◌==◌}
use Rattle.std.specs.List.{flat_map}
use Rattle.markdown_blocks.specs.content.Content.{content_len, front, joined, text_of}
use Rattle.markdown_blocks.proofs.content.SegmentLemmas.{lent_seen, seen, start}
use Rattle.markdown_blocks.proofs.content.lent.Goals as goal

pub returns : goal.returns
returns c = λ parts h.
    let n = c.content_len.result in
    let run = c.args.run.now in
    let counts : n ≡ content_len c.args.kind (flat_map text_of parts) = c.content_len.ensures.length ∙ ap (content_len c.args.kind) (sym h.0) in
    ap (λ b. seen (length b == 0) (take n run ++ b) (start c.args.source) c.new-2.result.items) c.new.ensures.items
    ∙ ap (λ ls. seen true (take n run ++ []) (start c.args.source) ls) c.new-2.ensures.items
    ∙ ap (λ t. seen true t (start c.args.source) []) (append-nil (take n run))
    ∙ lent_seen run c.args.source n parts c.content_len.ensures.within h
    ∙ ap (λ m. front m (joined parts)) counts
