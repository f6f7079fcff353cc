use Rattle.std.proofs.Common.{drop, sym, ap, ◌∙◌, subst}
use Rattle.std.specs.Str.{IsUtf8}
use Rattle.markdown_blocks.proofs.content.AsciiCuts.{end_utf8, fence_utf8, front_utf8, head_utf8}
use Rattle.markdown_blocks.proofs.info.info_of.Goals as goal

pub returns-clause-utf8 : goal.returns-clause-utf8
returns-clause-utf8 c = λ low utf8.
    let after = c.split_at.ensures.back ∙ ap (λ n. drop n c.args.fence.now) c.scan_ch_repeat.ensures.run in
    subst IsUtf8 (sym c.without_end.ensures) (end_utf8 c.without_front.result.now
    (subst IsUtf8 (sym c.without_front.ensures) (front_utf8 c.line_head.result.now
    (subst IsUtf8 (sym c.line_head.ensures.head) (head_utf8 c.split_at.result.1.now
    (subst IsUtf8 (sym after) (fence_utf8 c.args.byte low c.args.fence.now utf8)))))))
