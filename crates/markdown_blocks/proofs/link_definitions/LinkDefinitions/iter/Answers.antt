use Rattle.std.proofs.Common.{ap, subst, sym, ◌∙◌}
use Rattle.std.specs.Prelude.{option_map}
use Rattle.markdown_scanners_tree.specs.linklabel.Key.{key_bytes}
use Rattle.markdown_blocks.specs.link_definitions.LinkDefinitions.{target_in}
use Rattle.markdown_blocks.specs.link_definitions.Listed.{AreListed, IsFolding}
use Rattle.markdown_blocks.proofs.link_definitions.ListedLemmas.{all_unmapped, among_target}
use Rattle.markdown_blocks.proofs.link_definitions.NamedLemmas.{found_by_order, leads}
use Rattle.markdown_blocks.proofs.link_definitions.LinkDefinitions.iter.Goals as goal

pub returns-clause-listed : goal.returns-clause-listed
returns-clause-listed c =
    let es = c.self.inside.by_key.entries in
    let folds = all_unmapped IsFolding (λ e. e.0) es c.self.invariant in
    subst AreListed c.self.view_is (record {
      each = λ k d inside. let fold = folds k d inside in (
        fold.0,
        fold.1,
        ap (leads es) (sym fold.1) ∙ ap (option_map target_in) (sym (found_by_order es _) ∙ c.iter.ensures.found k d inside),
      );
      all = λ label target found. among_target _ (key_bytes label) target found;
      once = c.iter.ensures.ordered;
    })
