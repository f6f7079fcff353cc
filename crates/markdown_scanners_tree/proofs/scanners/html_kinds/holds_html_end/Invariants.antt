-- What ends the block begins at no offset that was passed.
use Rattle.std.proofs.Common.{◌≡◌, ◌-◌, length, drop}
use Rattle.markdown_scanners_tree.specs.scanners.html_kinds.HtmlKinds.{begins_html_end, is_somewhere}
use Rattle.markdown_scanners_tree.proofs.scanners.html_kinds.holds_html_end.Given as goal

abbrev pub invariant-loop-from : goal.invariant-loop-from
invariant-loop-from l =
    is_somewhere (begins_html_end l.kind) (drop l.from l.bytes) ≡ is_somewhere (begins_html_end l.kind) l.bytes

abbrev pub decreases-loop-from : goal.decreases-loop-from
decreases-loop-from l = length l.bytes - l.from
