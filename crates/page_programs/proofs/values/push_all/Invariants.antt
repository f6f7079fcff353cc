-- With the arguments that are left, all are added.
use Rattle.std.proofs.Common.{◌≡◌, ◌++◌, drop, map, string_bytes}
use Rattle.page_programs.proofs.values.push_all.Given as goal

abbrev pub invariant-loop-word : goal.invariant-loop-word
invariant-loop-word l =
    map string_bytes l.made.items ++ map string_bytes (drop l.word-index l.arguments)
    ≡ map string_bytes l.fn.made.items ++ map string_bytes l.arguments
