-- What is made is what is shown of the characters so far.
use Rattle.std.proofs.Common.{◌≡◌, flat_map, string_bytes}
use Rattle.page_programs.specs.Names.{shown_char}
use Rattle.page_programs.proofs.names.shown.Given as goal

abbrev pub invariant-loop-c : goal.invariant-loop-c
invariant-loop-c l = string_bytes l.text ≡ flat_map shown_char l.yielded
