-- A scheme ends where it ends in the bytes that are left.
use Rattle.std.proofs.Common.{◌≡◌, drop}
use Rattle.page_links.specs.targets.Targets.{ends_scheme}
use Rattle.page_links.proofs.targets.has_scheme.Given as goal

abbrev pub invariant-loop-byte : goal.invariant-loop-byte
invariant-loop-byte l = ends_scheme (drop l.byte-index l.destination) ≡ ends_scheme l.destination
