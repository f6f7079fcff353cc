use Rattle.std.proofs.Common.{◌≡◌, ◌+◌, ◌-◌, sym, ap, ◌∙◌, arith, drop, get_or}
use Rattle.std.specs.List.{prefix_len}
use Rattle.std.proofs.lemmas.List.{get_or-drop}
use Rattle.std.proofs.lemmas.List.Sums.{prefix_len_passes}
use Rattle.markdown_scanners_tree.proofs.PrefixLemmas.{from_offset}
use Rattle.markdown_scanners_tree.proofs.linklabel.WordSteps.{bracket_first}
use Rattle.markdown_scanners_tree.specs.linklabel.private.Run.{is_ordinary}
use Rattle.markdown_inlines.proofs.plain_labels.spaced_word_len.Goals as goal

pub returns-else-word-eq0-clause-word : goal.returns-else-word-eq0-clause-word
returns-else-word-eq0-clause-word c = λ some.
    let rest = c.args.rest.now in
    let word = c.word_len-word.result in
    let counted : word ≡ prefix_len is_ordinary (drop 1 rest) =
    c.word_len-word.ensures.word ∙ ap (prefix_len is_ordinary) (from_offset rest 1) in
    let space = bracket_first 32 rest (sym c.begins_with_space.ensures ∙ c.if-not-begins_with_space.false) in
    record {
      begins = ap (λ t. get_or t 0 0) space.1;
      some = omega (arith, c.if-word-eq0.false);
      word = λ k low high.
          let offset : 1 + (k - 1) ≡ k = omega (arith, low) in
          ap is_ordinary (ap (λ j. get_or rest j 0) (sym offset) ∙ sym (get_or-drop 1 rest (k - 1) 0))
          ∙ prefix_len_passes is_ordinary (drop 1 rest) (k - 1) 0 (omega (arith, low, high, counted));
    }
