use Rattle.std.proofs.Common.{◌≡◌, ◌++◌, drop}
use Rattle.markdown_inlines.specs.Emphasis.{emphasis_from}
use Rattle.markdown_inlines.proofs.emphasis.Openers.read_all.Given as goal

-- with what is found in the runs that are left, the emphasis of all is found
abbrev pub invariant-loop-run : goal.invariant-loop-run
invariant-loop-run l =
    l.emphasis.items ++ emphasis_from l.self (drop l.run-index l.runs) ≡ l.fn.emphasis.items ++ emphasis_from l.fn.self l.runs
