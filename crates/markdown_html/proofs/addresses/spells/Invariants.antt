use Rattle.std.proofs.Common.{◌≡◌, ◌≤◌, drop, map, length}
use Rattle.std.specs.Char.{to_ascii_lowercase}
use Rattle.std.specs.Str.{bytes_eq}
use Rattle.markdown_html.specs.Addresses.{without_breaks}
use Rattle.markdown_html.proofs.addresses.spells.Given as goal

-- the rest spells what is left of the scheme just where the whole spells all of it
abbrev pub invariant-loop-byte : goal.invariant-loop-byte
invariant-loop-byte l = record {
  within : l.read ≤ length l.scheme;
  rest : bytes_eq (map to_ascii_lowercase (without_breaks l.written)) (map to_ascii_lowercase l.scheme)
      ≡ bytes_eq (map to_ascii_lowercase (without_breaks (drop l.byte-index l.written))) (map to_ascii_lowercase (drop l.read l.scheme));
}
