-- What is written and the lines of the reports that are left make those of all.
use Rattle.std.proofs.Common.{◌≡◌, ◌++◌, drop, map, string_bytes}
use Rattle.page_links.specs.page.Printed.{reports_of}
use Rattle.markdown_blocks.specs.byte_order_mark.ByteOrderMark.{text_of}
use Rattle.page_positions.specs.private.Lines.{IsLineOf}
use Rattle.page_links.specs.reports.Reports.{seen_report}
use Rattle.page_links.proofs.page.push_reports.Given as goal

abbrev pub invariant-loop-report : goal.invariant-loop-report
invariant-loop-report l = record {
  is_line : IsLineOf (text_of l.page) l.line;
  written : string_bytes l.text ++ reports_of l.form l.name l.page (map seen_report (drop l.report-index l.reports))
      ≡ string_bytes l.fn.text ++ reports_of l.form l.name l.page (map seen_report l.reports);
}
