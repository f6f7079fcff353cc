-- what stands before the offset is appended
use Rattle.std.proofs.Common.{◌≡◌, ◌-◌, ◌≤◌, ◌++◌, length, drop}
use Rattle.std.specs.Str.{IsCharBoundary}
use Rattle.std.specs.String.{string_bytes}
use Rattle.markdown_inlines.specs.CodeContent.{with_spaces}
use Rattle.markdown_inlines.proofs.code_content.push_spaced.Given as goal

abbrev pub invariant-loop-offset : goal.invariant-loop-offset
invariant-loop-offset l =
    (l.offset ≤ length l.text) × IsCharBoundary l.text l.offset
    × (string_bytes l.out ++ with_spaces (drop l.offset l.text) ≡ string_bytes l.initial.out ++ with_spaces l.text)

abbrev pub decreases-loop-offset : goal.decreases-loop-offset
decreases-loop-offset l = length l.text - l.offset
