-- the strings before the offset are put in, and all before it is passed over
use Rattle.std.proofs.Common.{◌≡◌, ◌-◌, length}
use Rattle.markdown_inlines.proofs.guarded_code_spans.LastStringLemmas.{AreLastBetween}
use Rattle.markdown_inlines.proofs.guarded_code_spans.last_offsets.Given as goal

abbrev pub invariant-loop-start : goal.invariant-loop-start
invariant-loop-start l = AreLastBetween l.text 0 l.lasts.items l.offset × (l.passed ≡ l.offset)

abbrev pub decreases-loop-start : goal.decreases-loop-start
decreases-loop-start l = length l.text - l.offset
