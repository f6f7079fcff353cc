use Rattle.std.proofs.Common.{◌≡◌, length, drop}
use Rattle.markdown_scanners_c.specs.Skips.{stand_from}
use Rattle.markdown_scanners_c.proofs.skips.are_skips.Given as goal

abbrev pub invariant-loop-skip : goal.invariant-loop-skip
invariant-loop-skip l =
    stand_from l.from (length l.fn.bytes) (drop l.skip-index l.skips) ≡ stand_from 0 (length l.fn.bytes) l.skips
