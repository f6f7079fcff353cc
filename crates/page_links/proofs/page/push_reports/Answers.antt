use Rattle.std.proofs.Common.{arith}
use Rattle.page_links.specs.page.Printed.{report_line_of}
use Rattle.page_links.specs.reports.Reports.{seen_report}
use Rattle.page_links.proofs.TextLemmas.{written_all, written_more}
use Rattle.page_links.proofs.page.push_reports.Goals as goal

pub loop-report-preserved : goal.loop-report-preserved
loop-report-preserved c = record {
  is_line = c.in_ok-push_reported.ensures.line;
  written = written_more seen_report (report_line_of c.args.form c.args.name.now c.args.page.now) c.args.reports.now c.loop-report.report-index
      c.report-item.result _ _ _ (omega arith) c.report-item.is c.loop-report.invariant.written c.in_ok-push_reported.ensures.written;
}

pub returns : goal.returns
returns c = written_all seen_report (report_line_of c.args.form c.args.name.now c.args.page.now) c.args.reports.now c.loop-report.report-index _ _
    (omega arith) c.loop-report.invariant.written
