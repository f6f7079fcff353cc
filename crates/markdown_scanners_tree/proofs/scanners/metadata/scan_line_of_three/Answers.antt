use Rattle.std.proofs.Common.{◌==◌}
use Rattle.markdown_scanners_tree.proofs.RunLemmas.{prefix_len-from, line_ending-from}
use Rattle.markdown_scanners_tree.proofs.scanners.metadata.MetadataLemmas.{three-other, three-scanned, three-open}
use Rattle.markdown_scanners_tree.proofs.scanners.metadata.scan_line_of_three.Goals as goal

pub returns-then-scan_ch_repeat-ne3-clause-found : goal.returns-then-scan_ch_repeat-ne3-clause-found
returns-then-scan_ch_repeat-ne3-clause-found c = three-other c.args.bytes.now c.args.byte c.scan_ch_repeat.result
    c.scan_ch_repeat.ensures.run c.if-scan_ch_repeat-ne3.true

pub returns-in_err-scan_eol-clause-found : goal.returns-in_err-scan_eol-clause-found
returns-in_err-scan_eol-clause-found c =
    let is_space = prefix_len-from
    (λ b. b == 32) c.args.bytes.now 3 c.scan_ch_repeat-space.result c.scan_ch_repeat-space.ensures.run in
    rw c.from_residual.ensures (three-open c.args.bytes.now c.args.byte c.scan_ch_repeat.result
    c.scan_ch_repeat.ensures.run c.scan_ch_repeat-space.result c.if-scan_ch_repeat-ne3.false is_space
    (line_ending-from c.args.bytes.now 3 c.scan_ch_repeat-space.result _ c.in_err-scan_eol.ensures.ending))

pub returns-clause-found : goal.returns-clause-found
returns-clause-found c =
    let is_space = prefix_len-from
    (λ b. b == 32) c.args.bytes.now 3 c.scan_ch_repeat-space.result c.scan_ch_repeat-space.ensures.run in
    three-scanned c.args.bytes.now c.args.byte c.scan_ch_repeat.result c.scan_ch_repeat.ensures.run
    c.scan_ch_repeat-space.result _ c.if-scan_ch_repeat-ne3.false is_space
    (line_ending-from c.args.bytes.now 3 c.scan_ch_repeat-space.result _ c.in_ok-scan_eol.ensures.ending)
