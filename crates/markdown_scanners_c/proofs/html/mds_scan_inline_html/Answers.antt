-- The scan of the text that was made of the bytes is that of the bytes.
use Rattle.markdown_scanners_c.proofs.HtmlScans.{IsScan, guarded, ends, ends_first, in_turn}
use Rattle.markdown_scanners_c.proofs.html.mds_scan_inline_html.Goals as goal

scanned : (c : goal.After-end_returned)
    → IsScan c.args.bytes.now c.args.offset c.args.guard.now c.of.result c.scan_inline_html_counted-found.result
    c.scan_inline_html_counted-found.new.text
scanned c =
    let did = rw (c.new-text.ensures.start, c.to_scan-stops.ensures, ← c.of.ensures) at c.scan_inline_html_counted-found.ensures in
    record {
      refused = did.refused;
      opened = did.opened;
      unchanged = did.unchanged;
      answers = did.answer;
      guards = did.guards;
      counts = did.counts;
      finds = did.finds;
    }

pub returns : goal.returns
returns c =
    rw (c.end_returned.ensures, c.passed.ensures.value) (record {
      scan = guarded _ _ _ _ _ _ (scanned c);
      finds = ends _ _ _ _ _ _ (scanned c);
      first = ends_first _ _ _ _ _ _ (scanned c);
      in_turn = in_turn _ _ _ _ _ _ (scanned c);
    })
