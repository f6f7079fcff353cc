use Rattle.std.proofs.Common.{◌≡◌, ◌++◌, ◌≤◌, drop, take}
use Rattle.markdown_inlines.specs.Written.{with_starts}
use Rattle.markdown_inlines.proofs.inlines.put_starts.Given as goal

abbrev pub invariant-loop-inline : goal.invariant-loop-inline
invariant-loop-inline l =
    (take l.inline-index l.inlines ++ with_starts l.links l.number (drop l.inline-index l.inlines) ≡ with_starts l.links 0 l.initial.inlines)
    × (l.number ≤ l.inline-index)
