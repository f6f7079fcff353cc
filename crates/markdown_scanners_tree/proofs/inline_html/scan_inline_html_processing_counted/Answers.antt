use Rattle.std.proofs.Common.{arith, ap, ◌∙◌, ◌≡◌, ◌+◌, Some, None, refl}
use Rattle.std.proofs.lemmas.Bool.{le-leb, lt-leb}
use Rattle.markdown_scanners_tree.specs.inline_html.CountedText.{passing}
use Rattle.markdown_scanners_tree.specs.inline_html.InlineHtml.{Processing}
use Rattle.markdown_scanners_tree.specs.inline_html.Guard.{with_number}
use Rattle.markdown_scanners_tree.proofs.inline_html.Scans.{scan-stopped, scan-searched, passing-none}
use Rattle.markdown_scanners_tree.proofs.inline_html.TrueGuards.{true-processing}
use Rattle.markdown_scanners_tree.proofs.inline_html.scan_inline_html_processing_counted.Goals as goal

pub returns-then-offset-guard : goal.returns-then-offset-guard
returns-then-offset-guard c =
    let text = c.args.text.now in
    let scan = scan-stopped text.text c.args.guard.now c.args.offset Processing (le-leb _ _ c.if-offset-guard.true) in
    record {
      answer = scan.answers;
      guards = scan.guards;
      counts = passing-none text ∙ ap (passing text) scan.counts;
      finds = true-processing text.text c.args.guard.now c.args.offset _ _ scan.answers scan.guards;
    }

-- the search
pub returns-in_err-hit : goal.returns-in_err-hit
returns-in_err-hit c =
    let text = c.args.text.now in
    let guard = c.args.guard.now in
    let p = c.args.offset in
    let v = c.find_or_shut.new.text in
    let found = c.in_err-hit.ensures in
    let free = lt-leb _ _ c.if-offset-guard.false in
    let start : p + 0 ≡ p = omega arith in
    let scan = scan-searched text text v guard p 0 Processing None free (passing-none text)
    (rw start found.answer) (rw start found.counts) (omega (arith, c.requires.within)) in
    let answer = c.from_residual.ensures ∙ scan.0.answers in
    let guards = ap (with_number guard Processing) found.number ∙ scan.0.guards in
    record {
      answer = answer;
      guards = guards;
      counts = passing-none v ∙ scan.1 0 refl;
      finds = true-processing text.text guard p _ _ answer guards;
    }

pub returns : goal.returns
returns c =
    let text = c.args.text.now in
    let guard = c.args.guard.now in
    let p = c.args.offset in
    let v = c.find_or_shut.new.text in
    let hit = Some c.in_ok-hit.hit in
    let found = c.in_ok-hit.ensures in
    let free = lt-leb _ _ c.if-offset-guard.false in
    let start : p + 0 ≡ p = omega arith in
    let scan = scan-searched text text v guard p 0 Processing hit free (passing-none text)
    (rw start found.answer) (rw start found.counts) (omega (arith, c.requires.within)) in
    let guards = ap (with_number guard Processing) found.number ∙ scan.0.guards in
    record {
      answer = scan.0.answers;
      guards = guards;
      counts = passing-none v ∙ scan.1 0 refl;
      finds = true-processing text.text guard p _ _ scan.0.answers guards;
    }
