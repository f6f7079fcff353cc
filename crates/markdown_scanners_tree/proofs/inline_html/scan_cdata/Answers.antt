use Rattle.std.proofs.Common.{◌+◌, ◌≤◌, arith, length, Some, None, sym, ap, ◌∙◌, refl}
use Rattle.std.specs.Prelude.{codes}
use Rattle.std.proofs.lemmas.Bool.{lt-ltb, le-ltb}
use Rattle.std.proofs.lemmas.Grind.{elements}
use Rattle.markdown_scanners_tree.specs.inline_html.InlineHtml.{Cdata}
use Rattle.markdown_scanners_tree.specs.inline_html.Guard.{with_number}
use Rattle.markdown_scanners_tree.proofs.inline_html.Openings.{declared_at-cdata, declared_at-bracket, stands-length}
use Rattle.markdown_scanners_tree.proofs.inline_html.Scans.{scan-stopped, scan-bracket, scan-counts, scan-searched}
use Rattle.markdown_scanners_tree.proofs.inline_html.scan_cdata.Goals as goal

pub returns-then-not-begins : goal.returns-then-not-begins
returns-then-not-begins c =
    let text = c.args.text.now in
    let begins = c.if-not-begins.ensures in
    let scan = scan-bracket text.text c.args.guard.now c.args.offset in
    rw (declared_at-bracket text.text c.args.offset c.requires.stands (sym begins.answer)) (record {
      answer = scan.answers;
      guards = scan.guards;
      counts = scan-counts text c.starts-begins.new.self _ scan begins.counts refl;
    })

pub returns-then-offset-guard : goal.returns-then-offset-guard
returns-then-offset-guard c =
    let text = c.args.text.now in
    let begins = c.if-not-begins.ensures in
    let scan = scan-stopped text.text c.args.guard.now c.args.offset Cdata (lt-ltb _ _ c.if-offset-guard.true) in
    rw (declared_at-cdata text.text c.args.offset c.requires.stands (sym begins.answer)) (record {
      answer = scan.answers;
      guards = scan.guards;
      counts = scan-counts text c.starts-begins.new.self _ scan begins.counts refl;
    })

-- the search after the opening
pub returns-in_err-hit : goal.returns-in_err-hit
returns-in_err-hit c =
    let text = c.args.text.now in
    let guard = c.args.guard.now in
    let p = c.args.offset in
    let u = c.starts-begins.new.self in
    let v = c.find_or_shut.new.text in
    let begins = c.if-not-begins.ensures in
    let found = c.in_err-hit.ensures in
    let free = le-ltb _ _ c.if-offset-guard.false in
    let room : p + 1 + 6 ≤ length text.text = stands-length text.text (codes "CDATA[") (p + 1) (sym begins.answer) in
    let scan = scan-searched text u v guard p _ Cdata None free
    begins.counts found.answer found.counts (omega arith) in
    rw (declared_at-cdata text.text p c.requires.stands (sym begins.answer)) (record {
      answer = c.from_residual.ensures ∙ scan.0.answers;
      guards = ap (with_number guard Cdata) (found.number ∙ ap (λ t. length t.text) begins.counts) ∙ scan.0.guards;
      counts = scan.1 1 refl;
    })

pub returns : goal.returns
returns c =
    let text = c.args.text.now in
    let guard = c.args.guard.now in
    let p = c.args.offset in
    let u = c.starts-begins.new.self in
    let v = c.find_or_shut.new.text in
    let hit = Some c.in_ok-hit.hit in
    let begins = c.if-not-begins.ensures in
    let found = c.in_ok-hit.ensures in
    let free = le-ltb _ _ c.if-offset-guard.false in
    let room : p + 1 + 6 ≤ length text.text = stands-length text.text (codes "CDATA[") (p + 1) (sym begins.answer) in
    let scan = scan-searched text u v guard p _ Cdata hit free
    begins.counts found.answer found.counts (omega arith) in
    rw (declared_at-cdata text.text p c.requires.stands (sym begins.answer)) (record {
      answer = scan.0.answers;
      guards = ap (with_number guard Cdata) found.number ∙ scan.0.guards;
      counts = scan.1 1 refl;
    })

pub overflow_add-offset : goal.overflow_add-offset
overflow_add-offset c = grind (arith, elements)
