use Rattle.std.proofs.Common.{◌≡◌, drop}
use Rattle.page_programs.specs.Arguments.{is_named, texts}
use Rattle.page_programs.proofs.arguments.is_named.Given as goal

-- the word is one of the options that are left where it is one of all
abbrev pub invariant-loop-option : goal.invariant-loop-option
invariant-loop-option l = is_named (texts (drop l.option-index l.options)) l.word ≡ is_named (texts l.options) l.word
