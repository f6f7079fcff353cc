-- A step at each offset, and the two ends of the loop: at the last offset, and where there is none.
use Rattle.std.proofs.Common.{◌≡◌, ◌<◌, ◌+◌, ◌∙◌, append_assoc, string_bytes, length, arith}
use Rattle.std.specs.List.{flat_map}
use Rattle.markdown_scanners_tree.specs.inline_html.run.Passed.{bytes_passed}
use Rattle.cmark_scan.specs.html.HtmlScans.{scans_of, offsets_of, scan_text}
use Rattle.cmark_scan.proofs.html.ScanLemmas.{step_kept, ended}
use Rattle.cmark_scan.proofs.html.html_text.Goals as goal
use Rattle.cmark_scan.proofs.html.html_text.Goals.{else-loop-offset-test, then-loop-offset-test+in_ok-push_step+else-offset-offset-end}

pub loop-offset-preserved : goal.loop-offset-preserved
loop-offset-preserved c =
    let written = c.in_ok-push_step.ensures.written in
    let after = c.in_ok-push_step.ensures.after in
    rw (written, after) (step_kept c.args.bytes.now c.loop-offset.run c.loop-offset.offset _ c.loop-offset-test.true c.loop-offset.invariant)

-- when the loop has ended, all scans are written and counted
abbrev IsDone : goal.In_ok-writeln → Type 0
IsDone c =
    (string_bytes c.loop-offset-test.text ≡ flat_map scan_text (scans_of c.args.bytes.now))
    × (c.loop-offset-test.run.passed ≡ bytes_passed c.args.bytes.now (offsets_of (scans_of c.args.bytes.now)))
    × (c.loop-offset-test.run.steps ≡ length (scans_of c.args.bytes.now))

done : (c : goal.In_ok-writeln) → IsDone c
done c =
    elim c.loop-offset-test.branch [
      | else-loop-offset-test w ↦
          let text = w.text-is in
          let run = w.run-is in
          rw (text, run) (ended c.args.bytes.now c.loop-offset.run c.loop-offset.offset _ w.loop-offset-test.false c.loop-offset.invariant)
      | then-loop-offset-test+in_ok-push_step+else-offset-offset-end w ↦
          let text = w.text-is in
          let run = w.run-is in
          let written = w.in_ok-push_step.ensures.written in
          let after = w.in_ok-push_step.ensures.after in
          let last : length c.args.bytes.now < c.loop-offset.offset + 1 = omega arith in
          rw (text, run, written, after) (ended c.args.bytes.now _ _ _ last (step_kept c.args.bytes.now c.loop-offset.run c.loop-offset.offset _ w.loop-offset-test.true c.loop-offset.invariant))
    ]

pub returns : goal.returns
returns c =
    let (lines, passed, steps) = done c in
    let counted = c.passed.ensures.value ∙ passed in
    let made = c.steps.ensures.value ∙ steps in
    c.in_ok-writeln.ensures.bytes ∙ (rw (lines, counted, made) (simp append_assoc))
