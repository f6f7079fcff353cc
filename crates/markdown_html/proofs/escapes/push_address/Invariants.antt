-- What is written and the rest of the address make all.
use Rattle.std.proofs.Common.{◌≡◌, ◌++◌, length, string_bytes}
use denote.Shadow.{shadow}
use denote.Text.{Utf8}
use Rattle.markdown_html.specs.Escapes.{written_address}
use Rattle.markdown_html.proofs.escapes.push_address.Given as goal

abbrev pub invariant-loop-rest : goal.invariant-loop-rest
invariant-loop-rest l =
    shadow (Utf8 l.rest) × (string_bytes l.out ++ written_address l.rest ≡ string_bytes l.initial.out ++ written_address l.address)

abbrev pub decreases-loop-rest : goal.decreases-loop-rest
decreases-loop-rest l = length l.rest
