use Rattle.std.proofs.Common.{sym, ◌∙◌}
use Rattle.markdown_scanners_tree.specs.Bytes.{is_space_or_tab}
use Rattle.markdown_scanners_tree.proofs.RunLemmas.{prefix_len-from, line_ending-from}
use Rattle.markdown_scanners_tree.proofs.scanners.fences.FenceLemmas.{fence_close-few, fence_close-scanned, fence_close-open, closing-found, closing-only}
use Rattle.markdown_scanners_tree.proofs.scanners.fences.OneFence.{one_closing_fence}
use Rattle.markdown_scanners_tree.proofs.scanners.fences.scan_closing_code_fence.Goals as goal

pub returns-then-run-n_fence_char-clause-found : goal.returns-then-run-n_fence_char-clause-found
returns-then-run-n_fence_char-clause-found c n fence =
    fence_close-few c.args.bytes.now c.args.fence_char c.args.n_fence_char c.scan_ch_repeat-run.result
    c.scan_ch_repeat-run.ensures.run c.if-run-n_fence_char.true n (closing-only c.args.fence_char
    c.args.n_fence_char n c.args.bytes.now (sym c.is_empty.ensures ∙ c.if-is_empty.false) fence)

pub returns-in_err-scan_eol-clause-found : goal.returns-in_err-scan_eol-clause-found
returns-in_err-scan_eol-clause-found c =
    let is_space = prefix_len-from is_space_or_tab c.args.bytes.now c.scan_ch_repeat-run.result
    c.scan_spaces_and_tabs-space.result c.scan_spaces_and_tabs-space.ensures.run in
    rw c.from_residual.ensures (λ n fence.
    fence_close-open c.args.bytes.now c.args.fence_char c.args.n_fence_char c.scan_ch_repeat-run.result
    c.scan_ch_repeat-run.ensures.run c.scan_spaces_and_tabs-space.result is_space
    (line_ending-from c.args.bytes.now c.scan_ch_repeat-run.result c.scan_spaces_and_tabs-space.result _
    c.in_err-scan_eol.ensures.ending) n (closing-only c.args.fence_char c.args.n_fence_char n c.args.bytes.now
    (sym c.is_empty.ensures ∙ c.if-is_empty.false) fence))

pub returns-clause-found : goal.returns-clause-found
returns-clause-found c =
    let is_space = prefix_len-from is_space_or_tab c.args.bytes.now c.scan_ch_repeat-run.result
    c.scan_spaces_and_tabs-space.result c.scan_spaces_and_tabs-space.ensures.run in
    closing-found c.args.fence_char c.args.n_fence_char _ c.args.bytes.now
    (sym c.is_empty.ensures ∙ c.if-is_empty.false)
    (fence_close-scanned c.args.bytes.now c.args.fence_char c.args.n_fence_char c.scan_ch_repeat-run.result
    c.scan_ch_repeat-run.ensures.run c.scan_spaces_and_tabs-space.result _ c.if-run-n_fence_char.false is_space
    (line_ending-from c.args.bytes.now c.scan_ch_repeat-run.result c.scan_spaces_and_tabs-space.result _
    c.in_ok-scan_eol.ensures.ending))

pub returns-clause-only : goal.returns-clause-only
returns-clause-only c =
    λ other is. one_closing_fence c.args.bytes.now c.args.fence_char c.args.n_fence_char other _ is
    (returns-clause-found c)
