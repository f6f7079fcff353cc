-- Each turn passes a byte of a word, a space and the first byte of the next word, or an escape.
use Rattle.std.proofs.Common.{◌≡◌, ◌∙◌, sym, ap, true, arith, drop}
use Rattle.markdown_scanners_tree.specs.linklabel.private.Words.{is_kept_escape, joins_words, byte}
use Rattle.markdown_scanners_tree.proofs.linklabel.SourceSteps.{rest_is}
use Rattle.markdown_scanners_tree.proofs.linklabel.WordSteps.{escaped_here, joined_here}
use Rattle.markdown_scanners_tree.proofs.linklabel.words.words_up_to.Goals as goal

pub loop-offset-init : goal.loop-offset-init
loop-offset-init c = record { within = omega (arith, c.requires.ordered, c.requires.end); forward = omega arith; words = c.requires.words }

pub loop-offset-preserved-then-is_ordinary : goal.loop-offset-preserved-then-is_ordinary
loop-offset-preserved-then-is_ordinary c = record {
  within = omega (arith, c.loop-offset-test.true, c.requires.end);
  forward = omega (arith, c.loop-offset.invariant.forward);
  words = byte c.loop-offset.offset c.loop-offset.invariant.words (omega (arith, c.loop-offset-test.true, c.requires.end))
      (sym c.is_ordinary.ensures ∙ c.if-is_ordinary.true);
}

pub loop-offset-preserved-then-joins_words : goal.loop-offset-preserved-then-joins_words
loop-offset-preserved-then-joins_words c =
    let offset = c.loop-offset.offset in
    let joins : joins_words (drop offset c.args.bytes.now) ≡ true =
    ap joins_words (sym (rest_is c.args.bytes.now offset)) ∙ sym c.joins_words.ensures ∙ c.if-joins_words.true in
    let next = joined_here c.args.is_in_table c.args.bytes.now offset c.loop-offset.invariant.words c.if-offset-gt0.true joins in
    record { within = next.0; forward = omega (arith, c.loop-offset.invariant.forward); words = next.1 }

pub loop-offset-preserved : goal.loop-offset-preserved
loop-offset-preserved c =
    let t = c.args.is_in_table in
    let offset = c.loop-offset.offset in
    let escapes : is_kept_escape t (drop offset c.args.bytes.now) ≡ true =
    ap (is_kept_escape t) (sym (rest_is c.args.bytes.now offset)) ∙ sym c.is_kept_escape.ensures ∙ c.if-is_kept_escape.true in
    let next = escaped_here t c.args.bytes.now offset c.loop-offset.invariant.words escapes in
    record { within = next.0; forward = omega (arith, c.loop-offset.invariant.forward); words = next.1 }
