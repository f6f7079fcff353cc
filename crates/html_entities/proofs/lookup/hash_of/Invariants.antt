use Rattle.std.proofs.Common.{◌≡◌, take, fold}
use Rattle.html_entities.specs.Places.{mixed}
use Rattle.html_entities.proofs.lookup.hash_of.Given as goal

abbrev pub invariant-loop-byte : goal.invariant-loop-byte
invariant-loop-byte l = l.hash ≡ fold mixed 0 (take l.byte-index l.name)
