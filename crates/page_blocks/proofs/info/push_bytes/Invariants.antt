-- What is written and the text of the bytes that are left make the text of all.
use Rattle.std.proofs.Common.{◌≡◌, ◌++◌, drop, string_bytes}
use Rattle.std.specs.List.{flat_map}
use Rattle.page_blocks.specs.Info.{byte_text}
use Rattle.page_blocks.proofs.info.push_bytes.Given as goal

abbrev pub invariant-loop-byte : goal.invariant-loop-byte
invariant-loop-byte l = string_bytes l.text ++ flat_map byte_text (drop l.byte-index l.bytes) ≡ string_bytes l.initial.text ++ flat_map byte_text l.bytes
