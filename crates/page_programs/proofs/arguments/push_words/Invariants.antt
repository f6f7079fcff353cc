use Rattle.std.proofs.Common.{◌≡◌, ◌++◌, drop}
use Rattle.page_programs.proofs.arguments.push_words.Given as goal

-- with the arguments that are left, all are added
abbrev pub invariant-loop-word : goal.invariant-loop-word
invariant-loop-word l = l.names.items ++ drop l.word-index l.arguments ≡ l.fn.names.items ++ l.arguments
