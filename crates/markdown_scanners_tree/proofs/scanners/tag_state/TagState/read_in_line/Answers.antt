use Rattle.std.proofs.Common.{◌≡◌, ◌≤◌, ◌+◌, length, take, sym, false, arith}
use Rattle.std.proofs.lemmas.Grind.{common_steps}
use Rattle.markdown_scanners_tree.specs.scanners.tag_state.private.TagMachine.{LeadsTo, is_final}
use Rattle.markdown_scanners_tree.proofs.scanners.tag_state.TagRuns.{leads_step, leads_over_run}
use Rattle.markdown_scanners_tree.proofs.scanners.tag_state.TagState.read_in_line.Goals as goal

pub returns-then-is_final-clause-leads : goal.returns-then-is_final-clause-leads
returns-then-is_final-clause-leads c =
    rw c.next-state.ensures (leads_step c.args.bytes.now c.args.self c.loop-offset.offset c.loop-offset.state
    c.loop-offset-test.true c.loop-offset.invariant.0 c.loop-offset.invariant.2
    (sym (c.if-not-is_line_ending.ensures {u = tt})))

pub loop-offset-preserved : goal.loop-offset-preserved
loop-offset-preserved c =
    let unfinished : is_final c.next-state.result ≡ false = sym (c.if-is_final.ensures {u = tt}) in
    let one : LeadsTo c.args.self (take (c.loop-offset.offset + 1) c.args.bytes.now) c.next-state.result =
    rw c.next-state.ensures (leads_step c.args.bytes.now c.args.self c.loop-offset.offset c.loop-offset.state
    c.loop-offset-test.true c.loop-offset.invariant.0 c.loop-offset.invariant.2
    (sym (c.if-not-is_line_ending.ensures {u = tt}))) in
    let rises : c.loop-offset.offset + 1 ≤ c.end_of_run-offset.result = c.end_of_run-offset.ensures.within.0 in
    let inside : c.end_of_run-offset.result ≤ length c.args.bytes.now = c.end_of_run-offset.ensures.within.1 in (
      leads_over_run c.args.bytes.now c.args.self (c.loop-offset.offset + 1) c.end_of_run-offset.result c.next-state.result
          rises inside one unfinished c.end_of_run-offset.ensures.run,
      inside,
      unfinished,
    )

pub returns-else-not-is_line_ending-clause-stops : goal.returns-else-not-is_line_ending-clause-stops
returns-else-not-is_line_ending-clause-stops c = grind (arith, common_steps)
