-- What is written and the lines of the links that are left make those of all.
use Rattle.std.proofs.Common.{◌≡◌, ◌++◌, drop, map, string_bytes}
use Rattle.page_links.specs.links.Links.{seen_link}
use Rattle.page_links.specs.page.Printed.{list_of}
use Rattle.markdown_blocks.specs.byte_order_mark.ByteOrderMark.{text_of}
use Rattle.page_positions.specs.private.Lines.{IsLineOf}
use Rattle.page_links.proofs.page.push_list.Given as goal

abbrev pub invariant-loop-link : goal.invariant-loop-link
invariant-loop-link l = record {
  is_line : IsLineOf (text_of l.page) l.line;
  written : string_bytes l.text ++ list_of l.form l.name l.page (map seen_link (drop l.link-index l.links))
      ≡ string_bytes l.fn.text ++ list_of l.form l.name l.page (map seen_link l.links);
}
