-- The lines written and those of the scans that are left make up all of them.
use Rattle.std.proofs.Common.{string_bytes}
use Rattle.cmark_scan.proofs.html.ScanLemmas.{IsUnderWay}
use Rattle.cmark_scan.proofs.html.html_text.Given as goal

abbrev pub invariant-loop-offset : goal.invariant-loop-offset
invariant-loop-offset l = IsUnderWay l.bytes l.run l.offset (string_bytes l.text)
