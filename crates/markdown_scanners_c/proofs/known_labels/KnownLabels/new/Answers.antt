use Rattle.std.proofs.Common.{◌||◌, ◌∙◌, arith, sym}
use Rattle.std.specs.BTreeSet.{contains_text}
use Rattle.std.specs.List.{list_any}
use Rattle.std.proofs.lemmas.List.{at_drop_all, at_drop_more}
use Rattle.markdown_scanners_c.specs.KnownLabels.{has_key}
use Rattle.markdown_scanners_c.proofs.KnownLabelLemmas.{gathered, or_none}
use Rattle.markdown_scanners_c.proofs.known_labels.KnownLabels.new.Goals as goal

pub loop-label-preserved : goal.loop-label-preserved
loop-label-preserved c = λ key.
    gathered (contains_text c.add_key.new.keys key) (contains_text c.loop-label.keys key) _ _ _ (c.in_ok-add_key.ensures key)
    (sym (at_drop_more (λ labels. contains_text c.loop-label.keys key || list_any (has_key key) labels)
    c.args.labels.now c.loop-label.label-index _ c.loop-label-test.true) ∙ c.loop-label.invariant key)

pub invariant_of-result : goal.invariant_of-result
invariant_of-result c = record {
  are_keys = λ key. sym (or_none (contains_text c.loop-label.keys key))
      ∙ (sym (at_drop_all (λ labels. contains_text c.loop-label.keys key || list_any (has_key key) labels)
      c.args.labels.now c.loop-label.label-index (omega (arith, c.loop-label-test.false)))
      ∙ c.loop-label.invariant key);
}
