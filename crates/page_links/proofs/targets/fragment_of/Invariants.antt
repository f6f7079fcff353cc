-- The fragment is that of the bytes that are left.
use Rattle.std.proofs.Common.{◌≡◌, drop}
use Rattle.page_links.specs.targets.Targets.{fragment_of}
use Rattle.page_links.proofs.targets.fragment_of.Given as goal

abbrev pub invariant-loop-i : goal.invariant-loop-i
invariant-loop-i l = fragment_of (drop l.i l.destination) ≡ fragment_of l.destination
