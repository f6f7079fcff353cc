-- What is written and the lines of the tables that are left make those of all.
use Rattle.std.proofs.Common.{◌≡◌, ◌++◌, drop, string_bytes}
use Rattle.markdown_blocks.specs.byte_order_mark.ByteOrderMark.{text_of}
use Rattle.page_positions.specs.private.Lines.{IsLineOf}
use Rattle.page_tables.specs.Reports.{change_lines}
use Rattle.page_tables.proofs.reports.push_changes.Given as goal

abbrev pub invariant-loop-head : goal.invariant-loop-head
invariant-loop-head l = record {
  is_line : IsLineOf (text_of l.page) l.line;
  written : string_bytes l.text ++ change_lines l.name l.page (drop l.head-index l.heads)
      ≡ string_bytes l.fn.text ++ change_lines l.name l.page l.heads;
}
