use Rattle.std.proofs.Common.{◌<◌, length, map, arith}
use Rattle.page_tables.specs.Marks.{mark_view}
use Rattle.page_tables.proofs.LayoutLemmas.{head_laid}
use Rattle.page_tables.proofs.layout.Layout.add_head.Goals as goal

pub returns : goal.returns
returns g c =
    let old = c.args.self.now in
    let some : 0 < length old.columns.items = grind (arith, c.is_empty.ensures, c.if-is_empty.false) in
    head_laid (g.W.CellWidths.width c.args.widths.now) c.args.page.now old.from c.args.range.now c.delimiters_at-below.result
    (map mark_view c.args.later.now) c.delimiters_at-below.ensures old.columns.items c.push_row.new.self.columns.items c.deref.result.now old.out.items
    c.push_row.new.self.out.items c.extend_from_slice.new.self.items c.push_delimiter_row.new.out.items c.part.result.now some
    c.in_ok-push_row.ensures.columns c.deref.ensures.value c.in_ok-push_row.ensures.out c.part.ensures.part c.in_ok-extend_from_slice.ensures.items
    c.in_ok-push_delimiter_row.ensures
