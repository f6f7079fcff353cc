use Rattle.std.proofs.Common.{rules, of_calls, ◌∙◌, ◌≤◌, ◌<◌, ◌+◌, ◌-◌, length, take, drop, refl, sym, Some, length-append, arith}
use Rattle.std.proofs.lemmas.Grind.{common_steps}
use Rattle.markdown_scanners_tree.specs.Handler.{Answers}
use Rattle.markdown_scanners_tree.proofs.scanners.html_tag.KeptCopy.{copy_starts, copy_inside, copy_goes_on}
use Rattle.markdown_scanners_tree.proofs.scanners.html_tag.TagScan.{turn_with_skip, turn_without, skip_inside}
use Rattle.markdown_scanners_tree.proofs.scanners.html_tag.copy_kept.Goals as goal

pub loop-is_last-init : goal.loop-is_last-init
loop-is_last-init g c = (
  rw c.in_ok-buffer.ensures.items (copy_starts _ _ _),
  omega arith,
  c.in_ok-buffer.ensures.capacity,
  rw
      (c.in_ok-buffer.ensures.items, c.in_ok-buffer.ensures.len) refl,
)

pub bounds-bytes-offset : goal.bounds-bytes-offset
bounds-bytes-offset g c =
    let low : length c.loop-is_last.buffer.items < c.args.kept = omega arith in
    let inside : c.loop-is_last.offset < length c.args.bytes.now =
    copy_inside _ _ _ _ _ c.loop-is_last.invariant.0 c.requires.some low in
    inside

pub overflow_add-offset : goal.overflow_add-offset
overflow_add-offset g c =
    let low : length c.loop-is_last.buffer.items < c.args.kept = omega arith in
    let inside : c.loop-is_last.offset < length c.args.bytes.now =
    copy_inside _ _ _ _ _ c.loop-is_last.invariant.0 c.requires.some low in
    omega (arith, inside)

pub overflow_add-offset-then-is_last : goal.overflow_add-offset-then-is_last
overflow_add-offset-then-is_last g c =
    let low : length c.loop-is_last.buffer.items < c.args.kept = omega arith in
    let inside : c.loop-is_last.offset < length c.args.bytes.now =
    copy_inside _ _ _ _ _ c.loop-is_last.invariant.0 c.requires.some low in
    let answer : Answers g.F.Fn c.args.handler.now
    (take (length c.args.bytes.now - (c.loop-is_last.offset + 1)) (drop (c.loop-is_last.offset + 1) c.args.bytes.now))
    c.handler-offset.result =
    search (rules, of_calls) in
    let end : c.loop-is_last.offset + 1 + c.handler-offset.result ≤ length c.args.bytes.now =
    skip_inside g.F.Fn (Some c.args.handler) c.args.bytes.now c.loop-is_last.offset inside c.args.handler
    c.handler-offset.result refl c.requires.steady answer in
    omega (arith, end)

pub loop-is_last-preserved-then-is_last : goal.loop-is_last-preserved-then-is_last
loop-is_last-preserved-then-is_last g c =
    let low : length c.loop-is_last.buffer.items < c.args.kept = omega arith in
    let inside : c.loop-is_last.offset < length c.args.bytes.now =
    copy_inside _ _ _ _ _ c.loop-is_last.invariant.0 c.requires.some low in
    let answer : Answers g.F.Fn c.args.handler.now
    (take (length c.args.bytes.now - (c.loop-is_last.offset + 1)) (drop (c.loop-is_last.offset + 1) c.args.bytes.now))
    c.handler-offset.result =
    search (rules, of_calls) in
    let turn =
    turn_with_skip g.F.Fn (Some c.args.handler) c.args.bytes.now c.loop-is_last.offset inside 0 c.args.handler
    c.handler-offset.result refl c.requires.steady (sym c.ends_source_line-is_last.ensures ∙ c.if-is_last.true)
    answer in (
      rw c.push_reserved.ensures.items (copy_goes_on _ _ _ _ _ c.loop-is_last.invariant.0 0 _ _ low turn),
      turn.inside,
      rw c.push_reserved.ensures.capacity c.loop-is_last.invariant.2,
      rw
          (c.push_reserved.ensures.items, c.push_reserved.ensures.len) (simp length-append (omega arith)),
    )

pub loop-is_last-preserved : goal.loop-is_last-preserved
loop-is_last-preserved g c =
    let low : length c.loop-is_last.buffer.items < c.args.kept = omega arith in
    let inside : c.loop-is_last.offset < length c.args.bytes.now =
    copy_inside _ _ _ _ _ c.loop-is_last.invariant.0 c.requires.some low in
    let turn =
    turn_without g.F.Fn (Some c.args.handler) c.args.bytes.now c.loop-is_last.offset inside 0
    (sym c.ends_source_line-is_last.ensures ∙ c.if-is_last.false) in (
      rw c.push_reserved.ensures.items (copy_goes_on _ _ _ _ _ c.loop-is_last.invariant.0 0 _ _ low turn),
      turn.inside,
      rw c.push_reserved.ensures.capacity c.loop-is_last.invariant.2,
      rw
          (c.push_reserved.ensures.items, c.push_reserved.ensures.len) (simp length-append (omega arith)),
    )

pub returns : goal.returns
returns g c = grind (arith, common_steps)

pub returns-in_err-buffer : goal.returns-in_err-buffer
returns-in_err-buffer g c = grind (arith, common_steps)
