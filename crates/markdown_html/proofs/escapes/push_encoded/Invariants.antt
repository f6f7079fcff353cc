-- What is written and the bytes that are left make all.
use Rattle.std.proofs.Common.{◌≡◌, ◌++◌, drop, string_bytes}
use Rattle.markdown_html.specs.Escapes.{written_address}
use Rattle.markdown_html.proofs.escapes.push_encoded.Given as goal

abbrev pub invariant-loop-byte : goal.invariant-loop-byte
invariant-loop-byte l =
    string_bytes l.out ++ written_address (drop l.byte-index l.byte-items) ≡ string_bytes l.initial.out ++ written_address l.byte-items
