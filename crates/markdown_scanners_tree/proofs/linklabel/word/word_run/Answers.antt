-- A run grows by one byte at a time.
use Rattle.std.proofs.Common.{◌<◌, ◌+◌, ◌∷◌, ◌∙◌, sym, ap, subst, arith, drop, get_or, length}
use Rattle.std.proofs.lemmas.List.{drop_more}
use Rattle.markdown_scanners_tree.specs.linklabel.private.Run.{IsKeptByte, none, more}
use Rattle.markdown_scanners_tree.proofs.linklabel.SourceSteps.{rest_is}
use Rattle.markdown_scanners_tree.proofs.linklabel.word.word_run.Goals as goal

pub loop-run-preserved : goal.loop-run-preserved
loop-run-preserved c =
    let bytes = c.args.rest.now in
    let at = c.loop-run.run.len in
    let byte = get_or bytes at 0 in
    let within : at < length bytes = omega (arith, c.loop-run-test.true) in
    let parts = ap (λ after. byte ∷ after) (rest_is bytes (at + 1)) ∙ sym (drop_more bytes at 0 within) in
    let next : IsKeptByte c.args.is_in_table c.loop-run.run.escapes (drop at bytes) byte c.in-Some.escapes =
    subst (λ z. IsKeptByte c.args.is_in_table c.loop-run.run.escapes z byte c.in-Some.escapes) parts
    c.in-Some.ensures in
    record { read = more _ _ _ _ c.loop-run.invariant.read next; within = omega (arith, within) }

pub loop-run-init : goal.loop-run-init
loop-run-init c = record { read = none; within = omega arith }
