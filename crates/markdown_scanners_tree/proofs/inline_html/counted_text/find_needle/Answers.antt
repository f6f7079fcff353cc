use Rattle.std.proofs.Common.{◌≡◌, ◌∙◌, ◌+◌, ◌≤◌, length, sym, true, false, arith}
use Rattle.memchr.specs.Find.{occurs_at}
use Rattle.markdown_scanners_tree.proofs.inline_html.LastBytes.{none_before, none_at_all, found_there, none_there, found_after, offset_inside}
use Rattle.markdown_scanners_tree.proofs.inline_html.LeastPlaces.{occurs_at-slice}
use Rattle.markdown_scanners_tree.proofs.inline_html.counted_text.find_needle.Goals as goal

pub returns-in_err-offset : goal.returns-in_err-offset
returns-in_err-offset c =
    let nowhere = rw (c.in_err-offset.was {u = tt}) at c.memchr.ensures in
    rw c.from_residual.ensures (none_at_all c.args.haystack.now c.args.needle.now c.requires.some_needle (omega arith) nowhere)

pub returns-then-starts_with : goal.returns-then-starts_with
returns-then-starts_with c =
    let first = rw (c.in_ok-offset.was {u = tt}) at c.memchr.ensures in
    let inside =
    offset_inside c.args.haystack.now c.args.needle.now c.requires.some_needle c.in_ok-offset.offset first.0.high in
    let there : occurs_at c.args.haystack.now c.args.needle.now c.in_ok-offset.offset ≡ true =
    sym (occurs_at-slice c.args.haystack.now c.args.needle.now c.in_ok-offset.offset (omega arith) _ c.starts_with.ensures.value)
    ∙ c.if-starts_with.true in
    found_there c.args.haystack.now c.args.needle.now c.requires.some_needle c.in_ok-offset.offset there
    (none_before c.args.haystack.now c.args.needle.now c.requires.some_needle c.in_ok-offset.offset first.0.before)

pub returns-in-Some : goal.returns-in-Some
returns-in-Some c =
    let first = rw (c.in_ok-offset.was {u = tt}) at c.memchr.ensures in
    let inside : c.in_ok-offset.offset + 1 ≤ length c.args.haystack.now =
    offset_inside c.args.haystack.now c.args.needle.now c.requires.some_needle c.in_ok-offset.offset first.0.high in
    let gone : occurs_at c.args.haystack.now c.args.needle.now c.in_ok-offset.offset ≡ false =
    sym (occurs_at-slice c.args.haystack.now c.args.needle.now c.in_ok-offset.offset (omega arith) _ c.starts_with.ensures.value)
    ∙ c.if-starts_with.false in
    let none =
    none_there c.args.haystack.now c.args.needle.now c.requires.some_needle c.in_ok-offset.offset gone (none_before
    c.args.haystack.now c.args.needle.now c.requires.some_needle c.in_ok-offset.offset first.0.before) in
    rw c.in-Some.is at (found_after c.args.haystack.now c.args.needle.now c.requires.some_needle
    (c.in_ok-offset.offset + 1) c.find.result inside none c.find.ensures)

pub returns-in-None : goal.returns-in-None
returns-in-None c =
    let first = rw (c.in_ok-offset.was {u = tt}) at c.memchr.ensures in
    let inside : c.in_ok-offset.offset + 1 ≤ length c.args.haystack.now =
    offset_inside c.args.haystack.now c.args.needle.now c.requires.some_needle c.in_ok-offset.offset first.0.high in
    let gone : occurs_at c.args.haystack.now c.args.needle.now c.in_ok-offset.offset ≡ false =
    sym (occurs_at-slice c.args.haystack.now c.args.needle.now c.in_ok-offset.offset (omega arith) _ c.starts_with.ensures.value)
    ∙ c.if-starts_with.false in
    let none =
    none_there c.args.haystack.now c.args.needle.now c.requires.some_needle c.in_ok-offset.offset gone (none_before
    c.args.haystack.now c.args.needle.now c.requires.some_needle c.in_ok-offset.offset first.0.before) in
    rw c.in-None.is at (found_after c.args.haystack.now c.args.needle.now c.requires.some_needle
    (c.in_ok-offset.offset + 1) c.find.result inside none c.find.ensures)
