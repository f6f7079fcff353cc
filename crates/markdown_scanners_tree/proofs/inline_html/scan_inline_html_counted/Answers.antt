-- What begins at the offset is given by the mark.
use Rattle.std.proofs.Common.{◌≡◌, None, Some, sym, ap, ◌∙◌, arith}
use Rattle.markdown_scanners_tree.specs.inline_html.Guard.{is_stopped}
use Rattle.markdown_scanners_tree.specs.inline_html.InlineHtml.{Begins, Processing, declared_at}
use Rattle.markdown_scanners_tree.proofs.inline_html.ScanBounds.{cost-le, guarded_answer-bounds}
use Rattle.markdown_scanners_tree.proofs.inline_html.TrueGuards.{opener-bang, opener-question, opening_at-declared, opening_at-processing}
use Rattle.markdown_scanners_tree.proofs.inline_html.scan_inline_html_counted.Goals as goal

pub returns-in-Some-eq33 : goal.returns-in-Some-eq33
returns-in-Some-eq33 c =
    let text = c.args.text.now.text in
    let p = c.args.offset in
    let guard = c.args.guard.now in
    let opener = sym c.in-Some-eq33.ensures.answer in
    let bang = opener-bang text p c.in-Some-eq33.field-0 opener c.in-Some-eq33.field-0-test in
    let did = c.scan_inline_html_comment_counted.ensures in
    let most = cost-le text (is_stopped guard p) (declared_at text p) p in
    rw (opening_at-declared text p bang) (record {
      refused = tt;
      opened = λ none. let clash : None ≡ Some c.in-Some-eq33.field-0 = sym none ∙ opener in cc;
      unchanged = tt;
      answer = did.answer;
      guards = did.guards;
      counts = did.counts;
      within = rw did.answer (guarded_answer-bounds text guard (declared_at text p) p);
      bound = omega (arith, ap (λ t. t.passed) did.counts, most);
      finds = did.finds bang;
    })

pub returns-in-Some : goal.returns-in-Some
returns-in-Some c =
    let text = c.args.text.now.text in
    let p = c.args.offset in
    let guard = c.args.guard.now in
    let opener = sym c.in-Some.ensures.answer in
    let question = opener-question text p c.in-Some.field-0 opener c.in-Some.field-0-test.1 in
    let did = c.scan_inline_html_processing_counted.ensures in
    let most = cost-le text (is_stopped guard p) (Begins Processing) p in
    rw (opening_at-processing text p question) (record {
      refused = tt;
      opened = λ none. let clash : None ≡ Some c.in-Some.field-0 = sym none ∙ opener in cc;
      unchanged = tt;
      answer = did.answer;
      guards = did.guards;
      counts = did.counts;
      within = rw did.answer (guarded_answer-bounds text guard (Begins Processing) p);
      bound = omega (arith, ap (λ t. t.passed) did.counts, most);
      finds = did.finds question;
    })
