use Rattle.std.proofs.Common.{◌≡◌, ◌+◌, ◌-◌, true, length, arith, rules, drop, inr}
use Rattle.std.proofs.lemmas.List.{length-take, length-drop}
use Rattle.markdown_scanners_tree.specs.scanners.tables.BegunRow.{begins_with_cell}
use Rattle.markdown_scanners_tree.proofs.scanners.tables.CellScan.{scanned_cell, scanned_refused, scanned_no_end, scanned_last, begun_by_ended, begun_by_last}
use Rattle.markdown_scanners_tree.proofs.scanners.tables.scan_cells.Goals as goal

pub loop-len-preserved : goal.loop-len-preserved
loop-len-preserved c =
    let before = c.loop-len.invariant in
    let next = scanned_cell c.args.bytes.now before.0 c.loop-len.i c.in-Some.len _ before.1 before.2 before.3 c.in-Some.ensures.run
    c.in-Some.ensures.inside c.in-Some.ensures.piped _ c.has_hyphen.ensures c.if-not-has_hyphen.false _ _
    c.in_ok-push.ensures.items c.alignment_of.ensures in (
      next.0,
      next.1,
      next.2,
      next.3,
      inr (begun_by_ended c.args.bytes.now c.loop-len.i c.in-Some.len before.4 c.in-Some.ensures.run
          c.in-Some.ensures.piped _ c.has_hyphen.ensures c.if-not-has_hyphen.false),
    )

pub returns-in_err-push-clause-asked : goal.returns-in_err-push-clause-asked
returns-in_err-push-clause-asked c =
    let begun : begins_with_cell c.args.bytes.now ≡ true =
    begun_by_ended c.args.bytes.now c.loop-len.i c.in-Some.len c.loop-len.invariant.4 c.in-Some.ensures.run
    c.in-Some.ensures.piped _ c.has_hyphen.ensures c.if-not-has_hyphen.false in
    search (rules, begun)

pub returns-in_err-push_last-clause-asked : goal.returns-in_err-push_last-clause-asked
returns-in_err-push_last-clause-asked c =
    let begun : begins_with_cell c.args.bytes.now ≡ true =
    begun_by_last c.args.bytes.now c.loop-len.i c.scan_cell_bytes-len.result c.loop-len.invariant.4
    c.scan_cell_bytes-len.ensures.run c.in_default.ensures.none c.in_err-push_last.ensures.asked in
    search (rules, begun)

pub returns-then-not-has_hyphen-clause-none : goal.returns-then-not-has_hyphen-clause-none
returns-then-not-has_hyphen-clause-none c =
    let before = c.loop-len.invariant in
    scanned_refused c.args.bytes.now before.0 c.loop-len.i c.in-Some.len _ before.1 before.2 before.3
    c.in-Some.ensures.run c.in-Some.ensures.piped _ c.has_hyphen.ensures c.if-not-has_hyphen.true

pub returns-in_default-scan_eol-clause-none : goal.returns-in_default-scan_eol-clause-none
returns-in_default-scan_eol-clause-none c =
    let before = c.loop-len.invariant in
    scanned_no_end c.args.bytes.now before.0 c.loop-len.i c.scan_cell_bytes-len.result _ before.1 before.2 before.3
    c.scan_cell_bytes-len.ensures.run c.in_default.ensures.none c.in_default-scan_eol.ensures.ending

pub returns-clause-found : goal.returns-clause-found
returns-clause-found c =
    let before = c.loop-len.invariant in
    scanned_last c.args.bytes.now before.0 c.loop-len.i c.scan_cell_bytes-len.result _ before.1 before.2 before.3
    c.scan_cell_bytes-len.ensures.run
    c.in-Some-scan_eol.ending c.scan_cell_bytes-len.ensures.within c.in-Some-scan_eol.ensures.ending _
    c.in_ok-push_last.ensures.pushed _ _ c.loop-len.alignments.ok.0 c.is_empty-ended.ensures _ c.has_hyphen-hyphen.ensures

pub returns-clause-within : goal.returns-clause-within
returns-clause-within c =
    let start = c.loop-len.i + c.scan_cell_bytes-len.result in
    omega (
      arith,
      c.in-Some-scan_eol.ensures.within,
      length-take (length c.args.bytes.now - start)
          (drop start c.args.bytes.now),
      length-drop start c.args.bytes.now,
    )
