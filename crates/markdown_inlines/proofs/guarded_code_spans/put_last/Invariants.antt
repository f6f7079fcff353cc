-- the offsets are those at first
use Rattle.std.proofs.Common.{ℕ, ◌≡◌, ◌+◌, ◌-◌, get_or, vec_len}
use Rattle.markdown_inlines.proofs.guarded_code_spans.put_last.Given as goal

abbrev pub invariant-loop-lasts : goal.invariant-loop-lasts
invariant-loop-lasts l = (k : ℕ) → get_or l.lasts.items k 0 ≡ get_or l.initial.lasts.items k 0

abbrev pub decreases-loop-lasts : goal.decreases-loop-lasts
decreases-loop-lasts l = l.run + 1 - vec_len l.lasts
