use Rattle.std.proofs.Common.{◌≡◌, drop}
use Rattle.page_programs.specs.Arguments.{request_of}
use Rattle.page_programs.proofs.arguments.parse_request.Given as goal

-- what the arguments that are left ask for is what all do
abbrev pub invariant-loop-word : goal.invariant-loop-word
invariant-loop-word l = request_of (drop l.word-index l.arguments) ≡ request_of l.arguments
