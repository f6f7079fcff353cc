use Rattle.std.proofs.Common.{rules, of_calls, ◌≡◌, ◌≤◌, ◌<◌, ◌+◌, ◌-◌, ◌⊎◌, inl, inr, length, take, drop, refl, sym, ap, ◌∙◌, true, arith}
use Rattle.std.proofs.lemmas.Grind.{common_steps}
use Rattle.markdown_scanners_tree.specs.Handler.{Answers}
use Rattle.markdown_scanners_tree.specs.scanners.tag_state.private.TagMachine.{is_final}
use Rattle.markdown_scanners_tree.proofs.scanners.html_tag.TagBuffer.{if_none, none_given}
use Rattle.markdown_scanners_tree.proofs.scanners.html_tag.TagScan.{turn_with_skip, turn_without, skip_inside, scan_begins, scan_reads_on}
use Rattle.markdown_scanners_tree.proofs.scanners.html_tag.TagScan.{scan_goes_on, scan_finds, scan_only, scan_ends, no_handler_stops, ends_at, text_rises}
use Rattle.markdown_scanners_tree.proofs.scanners.html_tag.measure_tag.Goals.{then-loop-offset-test+else-not-is_final, else-loop-offset-test}
use Rattle.markdown_scanners_tree.proofs.scanners.html_tag.measure_tag.Goals as goal

pub loop-offset-init : goal.loop-offset-init
loop-offset-init g c = (
  scan_begins _ _ _ _ c.after_first-state.ensures.within c.after_first-state.ensures.leads,
  c.after_first-state.ensures.within,
  omega arith,
  omega arith,
  if_none c.args.handler _ _ (λ e. refl),
)

pub returns-in_err-skips-clause-none : goal.returns-in_err-skips-clause-none
returns-in_err-skips-clause-none g c =
    rw c.from_residual.ensures
    (no_handler_stops g.F.Fn c.args.handler c.args.bytes.now _ _ _ _ c.loop-offset.invariant.0
    (sym (c.if-not-is_final.ensures {u = tt})) c.loop-offset-test.true (c.in_err-skips.was {u = tt})
    (ends_at _ _ c.loop-offset-test.true ∙ sym (c.if-ends_line_before.ensures {u = tt})))

pub overflow_add-offset-then-ends_line_before : goal.overflow_add-offset-then-ends_line_before
overflow_add-offset-then-ends_line_before g c =
    let answer : Answers g.F.Fn c.in_ok-skips.skips.now
    (take (length c.args.bytes.now - (c.loop-offset.offset + 1)) (drop (c.loop-offset.offset + 1) c.args.bytes.now))
    c.skips-offset.result =
    search (rules, of_calls) in
    let inside : c.loop-offset.offset + 1 + c.skips-offset.result ≤ length c.args.bytes.now =
    skip_inside g.F.Fn c.args.handler c.args.bytes.now _ c.loop-offset-test.true c.in_ok-skips.skips
    c.skips-offset.result (c.in_ok-skips.was {u = tt}) c.requires.steady answer in
    omega (arith, inside)

pub loop-offset-preserved-then-ends_line_before : goal.loop-offset-preserved-then-ends_line_before
loop-offset-preserved-then-ends_line_before g c =
    let answer : Answers g.F.Fn c.in_ok-skips.skips.now
    (take (length c.args.bytes.now - (c.loop-offset.offset + 1)) (drop (c.loop-offset.offset + 1) c.args.bytes.now))
    c.skips-offset.result =
    search (rules, of_calls) in
    let turn =
    turn_with_skip g.F.Fn c.args.handler c.args.bytes.now _ c.loop-offset-test.true c.loop-offset.endings
    c.in_ok-skips.skips c.skips-offset.result (c.in_ok-skips.was {u = tt}) c.requires.steady
    (ends_at _ _ c.loop-offset-test.true ∙ sym (c.if-ends_line_before.ensures {u = tt})) answer in (
      rw c.after_line_ending-state.ensures
          (scan_goes_on _ _ _ _ _ _ c.loop-offset.invariant.0 (sym (c.if-not-is_final.ensures {u = tt})) _ _ turn),
      turn.inside,
      omega arith,
      omega arith,
      if_none c.args.handler _ _ (λ e. absurd (let some = c.in_ok-skips.was {u = tt} in cc)),
    )

pub loop-offset-preserved-else-ends_line_before : goal.loop-offset-preserved-else-ends_line_before
loop-offset-preserved-else-ends_line_before g c =
    let turn =
    turn_without g.F.Fn c.args.handler c.args.bytes.now _ c.loop-offset-test.true c.loop-offset.endings
    (ends_at _ _ c.loop-offset-test.true ∙ sym (c.if-ends_line_before.ensures {u = tt})) in (
      rw c.after_line_ending-state.ensures
          (scan_goes_on _ _ _ _ _ _ c.loop-offset.invariant.0 (sym (c.if-not-is_final.ensures {u = tt})) _ _ turn),
      turn.inside,
      omega arith,
      omega arith,
      if_none c.args.handler _ _ (λ e. ap (λ z. z + 1) (none_given c.args.handler _ _ c.loop-offset.invariant.4 e)),
    )

pub loop-offset-smaller : goal.loop-offset-smaller
loop-offset-smaller g c =
    let rises : 0 < c.read_in_line-after.result.1 =
    text_rises c.args.bytes.now c.loop-offset.offset _ _ _ c.loop-offset-test.true
    (sym (c.if-is_line_ending.ensures {u = tt})) (sym (c.if-not-is_final.ensures {u = tt}))
    c.read_in_line-after.ensures.leads c.read_in_line-after.ensures.stops in
    omega (arith, rises, c.loop-offset-test.true)

pub loop-offset-preserved : goal.loop-offset-preserved
loop-offset-preserved g c =
    let line =
    scan_reads_on _ _ _ _ _ _ _ _ c.loop-offset.invariant.0 c.loop-offset.invariant.1
    c.read_in_line-after.ensures.within c.read_in_line-after.ensures.leads in (
      line,
      grind (arith, common_steps),
      omega arith,
      omega arith,
      if_none c.args.handler _ _
          (λ e. ap (λ z. z + c.read_in_line-after.result.1) (none_given c.args.handler _ _ c.loop-offset.invariant.4 e)),
    )

pub returns-then-is_tag_end-clause-found : goal.returns-then-is_tag_end-clause-found
returns-then-is_tag_end-clause-found g c =
    scan_finds _ _ _ _ _ _ c.loop-offset.invariant.0 (sym (c.if-is_tag_end.ensures {u = tt}))

pub returns-then-is_tag_end-clause-only : goal.returns-then-is_tag_end-clause-only
returns-then-is_tag_end-clause-only g c =
    scan_only _ _ _ _ _ _ c.loop-offset.invariant.0 (sym (c.if-is_tag_end.ensures {u = tt}))

pub returns-else-is_tag_end-clause-none : goal.returns-else-is_tag_end-clause-none
returns-else-is_tag_end-clause-none g c =
    let end : (length c.args.bytes.now ≤ c.loop-offset.offset) ⊎ (is_final c.loop-offset.state ≡ true) =
    elim c.loop-offset-test.branch [
      | then-loop-offset-test+else-not-is_final w ↦ inr (sym (w.if-not-is_final.ensures {u = tt}))
      | else-loop-offset-test w ↦ inl w.loop-offset-test.false
    ] in
    scan_ends _ _ _ _ _ _ c.loop-offset.invariant.0 (sym (c.if-is_tag_end.ensures {u = tt})) end
