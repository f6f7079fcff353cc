-- What is written and the text of the bytes that are left make the text of all.
use Rattle.std.proofs.Common.{◌≡◌, ◌++◌, drop}
use Rattle.std.specs.List.{flat_map}
use Rattle.page_blocks.specs.Info.{escaped_byte}
use Rattle.page_blocks.proofs.info.escape_bytes.Given as goal

abbrev pub invariant-loop-byte : goal.invariant-loop-byte
invariant-loop-byte l = l.escaped.items ++ flat_map escaped_byte (drop l.byte-index l.bytes) ≡ flat_map escaped_byte l.bytes
