-- What is written and the lines of the rows that are left make those of all.
use Rattle.std.proofs.Common.{◌≡◌, ◌++◌, drop, string_bytes}
use Rattle.markdown_blocks.specs.byte_order_mark.ByteOrderMark.{text_of}
use Rattle.page_positions.specs.private.Lines.{IsLineOf}
use Rattle.page_tables.specs.Reports.{misfit_lines}
use Rattle.page_tables.proofs.reports.push_misfits.Given as goal

abbrev pub invariant-loop-row : goal.invariant-loop-row
invariant-loop-row l = record {
  is_line : IsLineOf (text_of l.page) l.line;
  written : string_bytes l.text ++ misfit_lines l.name l.page (drop l.row-index l.rows)
      ≡ string_bytes l.fn.text ++ misfit_lines l.name l.page l.rows;
}
