-- What is written and the digits of the bytes that are left make the digits of all.
use Rattle.std.proofs.Common.{◌≡◌, ◌++◌, drop, string_bytes}
use Rattle.std.specs.List.{flat_map}
use Rattle.page_blocks.specs.Info.{hex_byte}
use Rattle.page_blocks.proofs.info.push_hex.Given as goal

abbrev pub invariant-loop-byte : goal.invariant-loop-byte
invariant-loop-byte l = string_bytes l.text ++ flat_map hex_byte (drop l.byte-index l.bytes) ≡ string_bytes l.initial.text ++ flat_map hex_byte l.bytes
