use Rattle.std.proofs.Common.{◌≡◌, drop}
use Rattle.page_programs.specs.Arguments.{all_options, unknown_of}
use Rattle.page_programs.proofs.arguments.unknown_option.Given as goal

-- the arguments that are left have the first option that is not known
abbrev pub invariant-loop-word : goal.invariant-loop-word
invariant-loop-word l = unknown_of (all_options l.options) (drop l.word-index l.arguments) ≡ unknown_of (all_options l.options) l.arguments
