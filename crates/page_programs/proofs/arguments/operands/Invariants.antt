use Rattle.std.proofs.Common.{◌≡◌, ◌++◌, drop}
use Rattle.page_programs.specs.Arguments.{operands}
use Rattle.page_programs.proofs.arguments.operands.Given as goal

-- with the operands that are left, those of all are named
abbrev pub invariant-loop-i : goal.invariant-loop-i
invariant-loop-i l = l.names.items ++ operands (drop l.i l.arguments) ≡ operands l.arguments
