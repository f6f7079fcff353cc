use Rattle.std.proofs.Common.{map}
use Rattle.page_links.specs.reports.Reports.{seen_report}
use Rattle.page_links.proofs.page.check_of_page.Goals as goal

pub returns : goal.returns
returns g c =
    let written = rw (c.as_str.ensures.value, c.in_ok-called.ensures, c.deref.ensures.value, c.as_bytes.ensures.value, c.new-text.ensures.bytes)
    at c.in_ok-push_reports.ensures in record {
      is_text = c.utf8.page;
      reports = map seen_report c.in_ok-reports.reports.items;
      are_reports = c.in_ok-reports.ensures;
      is_list = written;
    }
