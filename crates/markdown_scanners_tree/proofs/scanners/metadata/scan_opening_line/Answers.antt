use Rattle.std.proofs.Common.{◌==◌, ◌+◌, sym, ap, ◌∙◌}
use Rattle.markdown_scanners_tree.specs.Bytes.{begins_with}
use Rattle.markdown_scanners_tree.specs.scanners.Metadata.{is_after_opening}
use Rattle.markdown_scanners_tree.proofs.PrefixLemmas.{from_offset}
use Rattle.markdown_scanners_tree.proofs.RunLemmas.{prefix_len-from}
use Rattle.markdown_scanners_tree.proofs.ScanLemmas.{one_if-false, one_if-true}
use Rattle.markdown_scanners_tree.proofs.scanners.metadata.MetadataLemmas.{opening-other, opening-scanned, opening-open}
use Rattle.markdown_scanners_tree.proofs.scanners.metadata.scan_opening_line.Goals as goal

pub returns-then-scan_ch_repeat-ne3-clause-none : goal.returns-then-scan_ch_repeat-ne3-clause-none
returns-then-scan_ch_repeat-ne3-clause-none c = opening-other c.args.bytes.now c.args.byte c.scan_ch_repeat.result
    c.scan_ch_repeat.ensures.run c.if-scan_ch_repeat-ne3.true

pub returns-then-scan_ch-eq0-clause-none : goal.returns-then-scan_ch-eq0-clause-none
returns-then-scan_ch-eq0-clause-none c =
    let is_space = prefix_len-from is_after_opening c.args.bytes.now 3 c.scan_after_opening-space.result
    c.scan_after_opening-space.ensures.run in
    let end = 3 + c.scan_after_opening-space.result in
    opening-open c.args.bytes.now c.args.byte c.scan_ch_repeat.result c.scan_ch_repeat.ensures.run
    c.scan_after_opening-space.result c.if-scan_ch_repeat-ne3.false is_space
    (ap (begins_with (λ b. b == 10)) (sym (from_offset c.args.bytes.now end))
    ∙ one_if-false _ _ c.scan_ch.ensures.first c.if-scan_ch-eq0.true)

pub returns-clause-found : goal.returns-clause-found
returns-clause-found c =
    let is_space = prefix_len-from is_after_opening c.args.bytes.now 3 c.scan_after_opening-space.result
    c.scan_after_opening-space.ensures.run in
    let end = 3 + c.scan_after_opening-space.result in
    opening-scanned c.args.bytes.now c.args.byte c.scan_ch_repeat.result c.scan_ch_repeat.ensures.run
    c.scan_after_opening-space.result c.if-scan_ch_repeat-ne3.false is_space
    (ap (begins_with (λ b. b == 10)) (sym (from_offset c.args.bytes.now end))
    ∙ one_if-true _ _ c.scan_ch.ensures.first c.if-scan_ch-eq0.false)
