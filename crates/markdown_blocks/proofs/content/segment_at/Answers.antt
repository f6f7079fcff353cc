use Rattle.std.proofs.Common.{ℕ, ◌+◌, ◌-◌, ◌/◌, ◌<◌, ◌≤◌, arith, refl}
use Rattle.markdown_blocks.proofs.content.SegmentLemmas.{upper_rising, upper_aim, upper_low, lower_after, start}
use Rattle.markdown_blocks.proofs.content.segment_at.Goals as goal

half : (low high : ℕ) → low < high → (low ≤ low + (high - low) / 2) × (low + (high - low) / 2 < high)
half low high fewer = (omega arith, omega arith)

pub loop-low-preserved-then-segment-offset : goal.loop-low-preserved-then-segment-offset
loop-low-preserved-then-segment-offset c =
    let l = c.loop-low in
    let h = half l.low l.high c.loop-low-test.true in
    let m = l.low + (l.high - l.low) / 2 in
    let later = c.args.later.now in (
      omega (arith, h.1),
      l.invariant.1,
      upper_rising l.found later c.args.offset l.low l.high m _ (start 0) h.0 h.1 l.invariant.1 l.invariant.2 refl,
      c.if-segment-offset.true,
      (λ at from. upper_aim l.found later at l.low l.high m _ (start 0) h.0 h.1 l.invariant.1 l.invariant.2
          (l.invariant.4 at (omega (arith, from, upper_low l.found later at l.low l.high m _ (start 0) h.0 h.1 l.invariant.1 l.invariant.2 refl))) from),
      l.invariant.5,
    )

pub loop-low-preserved : goal.loop-low-preserved
loop-low-preserved c =
    let l = c.loop-low in
    let h = half l.low l.high c.loop-low-test.true in
    let m = l.low + (l.high - l.low) / 2 in (
      h.0,
      omega (arith, h.1, l.invariant.1),
      l.invariant.2,
      l.invariant.3,
      l.invariant.4,
      lower_after l.found c.args.later.now c.args.offset l.low l.high m _ (start 0) h.0 h.1 l.invariant.1 l.invariant.2 refl c.if-segment-offset.false,
    )
