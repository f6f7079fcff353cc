use Rattle.std.proofs.Common.{◌≡◌, ◌+◌, ◌≤◌, false, ap, subst, arith, drop, length}
use Rattle.std.proofs.lemmas.List.{length-drop}
use Rattle.std.proofs.lemmas.List.Sums.{prefix_len_passes}
use Rattle.markdown_scanners_tree.proofs.PrefixLemmas.{from_offset}
use Rattle.markdown_scanners_tree.specs.linklabel.private.Run.{is_ordinary}
use Rattle.markdown_scanners_tree.specs.linklabel.private.Words.{AreWords, none}
use Rattle.markdown_inlines.specs.PlainLabels.{IsSpacedWord}
use Rattle.markdown_inlines.proofs.plain_labels.PlainLabelLemmas.{words_on, words_spaced}
use Rattle.markdown_inlines.proofs.plain_labels.words_len.Goals as goal

pub loop-words-init : goal.loop-words-init
loop-words-init c =
    let bytes = c.args.bytes.now in
    let word = c.word_len-words.result in
    let all : 0 + word ≡ word = omega arith in record {
      within = c.word_len-words.ensures.within;
      words = subst (AreWords false bytes) all
          (words_on bytes 0 word none (omega (arith, c.word_len-words.ensures.within)) (λ k low high.
          prefix_len_passes is_ordinary bytes k 0 (omega (arith, high, c.word_len-words.ensures.word))));
    }

pub loop-words-preserved : goal.loop-words-preserved
loop-words-preserved c =
    let bytes = c.args.bytes.now in
    let words = c.loop-words.words in
    let next = c.spaced_word_len-next.result in
    let is : IsSpacedWord (drop words bytes) next =
    subst (λ rest. IsSpacedWord rest next) (from_offset bytes words)
    (c.spaced_word_len-next.ensures.word (omega (arith, c.if-next-eq0.false))) in
    let within : words + next ≤ length bytes =
    omega (arith, c.spaced_word_len-next.ensures.within, ap length (from_offset bytes words), length-drop words bytes, c.loop-words.invariant.within) in
    record { within = within; words = words_spaced bytes words next c.loop-words.invariant.words c.loop-words-test.true within is }
