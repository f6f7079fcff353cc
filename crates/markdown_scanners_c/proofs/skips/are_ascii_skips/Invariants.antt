use Rattle.std.proofs.Common.{◌≡◌, drop}
use Rattle.markdown_scanners_c.specs.Skips.{are_ascii_skips}
use Rattle.markdown_scanners_c.proofs.skips.are_ascii_skips.Given as goal

abbrev pub invariant-loop-skip : goal.invariant-loop-skip
invariant-loop-skip l = are_ascii_skips (drop l.skip-index l.skips) l.fn.bytes ≡ are_ascii_skips l.skips l.fn.bytes
