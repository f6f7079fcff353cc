use Rattle.std.proofs.Common.{◌≡◌, ℕ, ◌+◌, ◌<◌, true, false, arith, length, Option, Some, None, sym, ap, ◌∙◌, subst, refl, ⊎_elim}
use Rattle.std.specs.Prelude.{◌==◌, ◌≢◌, not, slice_get}
use Rattle.std.specs.Option.{option_eq}
use Rattle.std.proofs.lemmas.Bool.{lt-ltb, le-ltb, eqb-true, eq-eqb, false≢true, cases_Bool}
use Rattle.std.proofs.lemmas.Option.{same_Some, none-some, slice_get_within}
use Rattle.std.proofs.lemmas.Grind.{elements}
use Rattle.markdown_scanners_tree.specs.Ascii.{hyphen}
use Rattle.markdown_scanners_tree.specs.inline_html.InlineHtml.{Comment}
use Rattle.markdown_scanners_tree.specs.inline_html.Guard.{with_number}
use Rattle.markdown_scanners_tree.proofs.inline_html.Openings.{declared_at-comment, declared_at-hyphen, some_or_not}
use Rattle.markdown_scanners_tree.proofs.inline_html.Scans.{scan-stopped, scan-hyphen, scan-hyphen-stopped, scan-counts, scan-searched, passing-none}
use Rattle.markdown_scanners_tree.proofs.inline_html.scan_comment.Goals as goal

-- what the test of the second byte tells
is_some_byte : (o : Option ℕ) (b : ℕ) → false ≡ not (option_eq ◌==◌ o (Some b)) → o ≡ Some b
is_some_byte None b e = absurd (false≢true e)
is_some_byte (Some a) b e =
    ⊎_elim (λ same. ap Some (eqb-true a b same)) (λ other. absurd (false≢true (e ∙ ap not other))) (cases_Bool (a == b))

no_such_byte : (o : Option ℕ) (b : ℕ) → true ≡ not (option_eq ◌==◌ o (Some b)) → o ≢ Some b
no_such_byte None b e = none-some b
no_such_byte (Some a) b e = λ same. false≢true (sym (e ∙ ap not (eq-eqb a b (same_Some a b same))))

pub returns-then-offset-guard : goal.returns-then-offset-guard
returns-then-offset-guard c =
    let text = c.args.text.now in
    let stopped = lt-ltb _ _ c.if-offset-guard.true in
    ⊎_elim
    (λ second.
    let scan = scan-stopped text.text c.args.guard.now c.args.offset Comment stopped in
    rw (declared_at-comment text.text c.args.offset c.requires.stands second)
    (record { answer = scan.answers; guards = scan.guards; counts = scan-counts text text 0 scan (passing-none text) refl }))
    (λ other.
    let scan = scan-hyphen-stopped text.text c.args.guard.now c.args.offset stopped in
    rw (declared_at-hyphen text.text c.args.offset c.requires.stands other)
    (record { answer = scan.answers; guards = scan.guards; counts = scan-counts text text 0 scan (passing-none text) refl }))
    (some_or_not (slice_get text.text (c.args.offset + 1)) hyphen)

pub returns-then-ne : goal.returns-then-ne
returns-then-ne c =
    let text = c.args.text.now in
    let other =
    subst (λ o. o ≢ Some hyphen) c.look-second.ensures.answer (no_such_byte c.look-second.result hyphen c.if-ne.ensures) in
    let scan = scan-hyphen text.text c.args.guard.now c.args.offset (le-ltb _ _ c.if-offset-guard.false) in
    rw (declared_at-hyphen text.text c.args.offset c.requires.stands other)
    (record { answer = scan.answers; guards = scan.guards; counts = scan-counts text c.look-second.new.self _ scan c.look-second.ensures.counts refl })

-- the search after the look at the second byte
pub returns-in_err-hit : goal.returns-in_err-hit
returns-in_err-hit c =
    let text = c.args.text.now in
    let guard = c.args.guard.now in
    let p = c.args.offset in
    let u = c.look-second.new.self in
    let v = c.find_or_shut.new.text in
    let looked = c.look-second.ensures in
    let found = c.in_err-hit.ensures in
    let free = le-ltb _ _ c.if-offset-guard.false in
    let there = sym looked.answer ∙ is_some_byte c.look-second.result hyphen c.if-ne.ensures in
    let start : p + 0 ≡ p = omega arith in
    let room : p < length text.text = slice_get_within text.text p hyphen c.requires.stands in
    let scan = scan-searched text u v guard p _ Comment None free looked.counts
    (rw start found.answer) (rw start found.counts) (omega arith) in
    rw (declared_at-comment text.text p c.requires.stands there) (record {
      answer = c.from_residual.ensures ∙ scan.0.answers;
      guards = ap (with_number guard Comment) (found.number ∙ ap (λ t. length t.text) looked.counts) ∙ scan.0.guards;
      counts = scan.1 1 refl;
    })

pub returns : goal.returns
returns c =
    let text = c.args.text.now in
    let guard = c.args.guard.now in
    let p = c.args.offset in
    let u = c.look-second.new.self in
    let v = c.find_or_shut.new.text in
    let hit = Some c.in_ok-hit.hit in
    let looked = c.look-second.ensures in
    let found = c.in_ok-hit.ensures in
    let free = le-ltb _ _ c.if-offset-guard.false in
    let there = sym looked.answer ∙ is_some_byte c.look-second.result hyphen c.if-ne.ensures in
    let start : p + 0 ≡ p = omega arith in
    let room : p < length text.text = slice_get_within text.text p hyphen c.requires.stands in
    let scan = scan-searched text u v guard p _ Comment hit free looked.counts
    (rw start found.answer) (rw start found.counts) (omega arith) in
    rw (declared_at-comment text.text p c.requires.stands there) (record {
      answer = scan.0.answers;
      guards = scan.0.guards;
      counts = scan.1 1 refl;
    })

pub overflow_add-offset : goal.overflow_add-offset
overflow_add-offset c = grind (arith, elements)
