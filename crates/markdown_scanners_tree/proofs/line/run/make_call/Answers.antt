use Rattle.markdown_scanners_tree.proofs.line.ItemLemmas.{item_allowed}
use Rattle.markdown_scanners_tree.proofs.line.run.make_call.Goals as goal

pub returns-in-List : goal.returns-in-List
returns-in-List c =
    let none = item_allowed c.args.start.now.pending c.in-List.indent (rw c.in-List.is at c.requires) in
    rw c.in-List.is (c.scan_list_marker_with_indent.ensures.step none)
