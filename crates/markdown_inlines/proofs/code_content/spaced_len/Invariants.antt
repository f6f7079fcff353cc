-- the bytes so far are counted
use Rattle.std.proofs.Common.{◌≡◌, ◌+◌, ◌≤◌, length, drop}
use Rattle.markdown_inlines.specs.CodeContent.{with_spaces}
use Rattle.markdown_inlines.proofs.code_content.spaced_len.Given as goal

abbrev pub invariant-loop-i : goal.invariant-loop-i
invariant-loop-i l = (l.len ≤ l.i) × (l.len + length (with_spaces (drop l.i l.bytes)) ≡ length (with_spaces l.bytes))
