-- What is reported of a page.
use Rattle.std.specs.Prelude.{ℕ, List, string_bytes}
use Rattle.page_links.specs.declared.reports.Finding.{Finding}
use Rattle.page_links.specs.declared.reports.Report.{Report}

-- A fault: how many bytes of the page stand before it, what it is, and the text that it is about.
pub record Reported : Type 0 where
  pub offset : ℕ
  pub finding : Finding
  pub text : List ℕ

abbrev pub seen_report : Report → Reported
seen_report it = record { offset = it.offset; finding = it.finding; text = string_bytes it.text }
