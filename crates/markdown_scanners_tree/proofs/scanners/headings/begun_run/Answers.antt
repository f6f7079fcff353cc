use Rattle.markdown_scanners_tree.proofs.RunLemmas.{begun_bytes, begun_length}
use Rattle.markdown_scanners_tree.proofs.scanners.headings.begun_run.Goals as goal

pub slice_bounds-scan_ch_repeat-start : goal.slice_bounds-scan_ch_repeat-start
slice_bounds-scan_ch_repeat-start c = begun_bytes c.args.byte c.args.bytes.now c.requires

pub returns : goal.returns
returns c =
    let run = begun_length c.args.byte c.args.bytes.now c.scan_ch_repeat.result c.requires c.scan_ch_repeat.ensures.run in
    record { run = run.0; within = run.1 }
