use Rattle.std.proofs.Common.{◌≡◌, drop}
use Rattle.std.specs.Option.{option_map, option_or}
use Rattle.page_programs.specs.Asked.{both_flags, flags_of, root_of}
use Rattle.page_programs.specs.Extensions.{both, extensions_of}
use Rattle.page_programs.proofs.asked.asked_options.Given as goal

-- what the arguments that are left ask for, with what is asked for by those that are passed, is what all ask for
abbrev pub invariant-loop-word : goal.invariant-loop-word
invariant-loop-word l = record {
  flags : both_flags (flags_of (drop l.word-index l.arguments)) l.asked.flags ≡ flags_of l.arguments;
  extensions : both (extensions_of (drop l.word-index l.arguments)) l.asked.extensions ≡ extensions_of l.arguments;
  root : option_or (root_of (drop l.word-index l.arguments)) (option_map (λ root. root.now) l.asked.root) ≡ root_of l.arguments;
}
