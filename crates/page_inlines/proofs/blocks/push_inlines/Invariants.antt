-- What is written and the lines of the inlines that are left make those of all.
use Rattle.std.proofs.Common.{◌≡◌, ◌++◌, drop, string_bytes}
use Rattle.std.specs.List.{flat_map}
use Rattle.page_inlines.specs.Lines.{inline_line}
use Rattle.page_inlines.proofs.blocks.push_inlines.Given as goal

abbrev pub invariant-loop-inline : goal.invariant-loop-inline
invariant-loop-inline l =
    string_bytes l.text ++ flat_map (inline_line l.start l.content l.links) (drop l.inline-index l.found.inlines)
    ≡ string_bytes l.fn.text ++ flat_map (inline_line l.start l.content l.links) l.found.inlines
