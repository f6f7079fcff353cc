use Rattle.std.proofs.Common.{arith, refl}
use Rattle.std.proofs.lemmas.Bool.{lt-ltb, le-ltb}
use Rattle.markdown_scanners_tree.specs.inline_html.InlineHtml.{Declaration}
use Rattle.markdown_scanners_tree.proofs.inline_html.Scans.{scan-stopped, scan-counts, scan-searched, passing-none}
use Rattle.markdown_scanners_tree.proofs.inline_html.scan_declaration.Goals as goal

pub returns-then-offset-guard : goal.returns-then-offset-guard
returns-then-offset-guard c =
    let text = c.args.text.now in
    let scan = scan-stopped text.text c.args.guard.now c.args.offset Declaration (lt-ltb _ _ c.if-offset-guard.true) in
    rw c.requires.stands (record {
      answer = scan.answers;
      guards = scan.guards;
      counts = scan-counts text text 0 scan (passing-none text) (omega arith);
    })

-- the search after the letter
pub returns-in_err-hit-clause-counts : goal.returns-in_err-hit-clause-counts
returns-in_err-hit-clause-counts c =
    let text = c.args.text.now in
    let found = c.find_or_shut.ensures in
    rw c.requires.stands ((scan-searched text text c.find_or_shut.new.text c.args.guard.now c.args.offset 0 Declaration
    c.find_or_shut.result (le-ltb _ _ c.if-offset-guard.false) (passing-none text) found.answer found.counts
    (omega (arith, c.requires.within))).1 1 refl)

pub returns-clause-counts : goal.returns-clause-counts
returns-clause-counts c =
    let text = c.args.text.now in
    let found = c.find_or_shut.ensures in
    rw c.requires.stands ((scan-searched text text c.find_or_shut.new.text c.args.guard.now c.args.offset 0 Declaration
    c.find_or_shut.result (le-ltb _ _ c.if-offset-guard.false) (passing-none text) found.answer found.counts
    (omega (arith, c.requires.within))).1 1 refl)
