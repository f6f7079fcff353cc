use Rattle.std.proofs.Common.{◌≡◌, map, take}
use Rattle.markdown_scanners_c.specs.Inlines.{inline_returned}
use Rattle.markdown_scanners_c.proofs.inlines.inlines_returned.Given as goal

abbrev pub invariant-loop-inline : goal.invariant-loop-inline
invariant-loop-inline l = l.returned.items ≡ map (inline_returned l.links) (take l.inline-index l.inlines)
