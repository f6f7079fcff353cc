use Rattle.std.proofs.Common.{refl, arith}
use Rattle.std.proofs.lemmas.Grind.{common_steps}
use Rattle.markdown_scanners_tree.proofs.scanners.breaks.BreakScan.{scanned_none, scanned_few, scanned_break}
use Rattle.markdown_scanners_tree.proofs.scanners.breaks.scan_break_of.Goals as goal

pub returns-in_default-clause-none : goal.returns-in_default-clause-none
returns-in_default-clause-none c = (scanned_none _ _ _ c.requires.is_marker c.requires.begins
    c.scan_break_bytes-run.ensures.run _ refl c.in_default.ensures.ending).0

pub returns-in_default-clause-none_before : goal.returns-in_default-clause-none_before
returns-in_default-clause-none_before c = (scanned_none _ _ _ c.requires.is_marker c.requires.begins
    c.scan_break_bytes-run.ensures.run _ refl c.in_default.ensures.ending).1

pub returns-then-markers-ge3-clause-found : goal.returns-then-markers-ge3-clause-found
returns-then-markers-ge3-clause-found c = scanned_break _ _ _ c.requires.is_marker c.requires.begins
    c.scan_break_bytes-run.ensures.run _ c.scan_break_bytes-run.ensures.markers _ c.in-Some.ensures.ending
    c.if-markers-ge3.true

pub returns-else-markers-ge3-clause-none : goal.returns-else-markers-ge3-clause-none
returns-else-markers-ge3-clause-none c = (scanned_few _ _ _ c.requires.is_marker c.requires.begins
    c.scan_break_bytes-run.ensures.run _ c.scan_break_bytes-run.ensures.markers _ c.in-Some.ensures.ending
    c.if-markers-ge3.false).0

pub returns-else-markers-ge3-clause-none_before : goal.returns-else-markers-ge3-clause-none_before
returns-else-markers-ge3-clause-none_before c = (scanned_few _ _ _ c.requires.is_marker c.requires.begins
    c.scan_break_bytes-run.ensures.run _ c.scan_break_bytes-run.ensures.markers _ c.in-Some.ensures.ending
    c.if-markers-ge3.false).1

pub returns-else-markers-ge3-clause-stopped : goal.returns-else-markers-ge3-clause-stopped
returns-else-markers-ge3-clause-stopped c = grind (arith, common_steps)
