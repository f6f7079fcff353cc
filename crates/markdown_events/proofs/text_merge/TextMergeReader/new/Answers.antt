use Rattle.std.proofs.Common.{ap, subst, sym, ◌∙◌}
use Rattle.markdown_events.specs.EventLaws.{AreAtBoundaries, AreBalanced, AreWithin}
use Rattle.markdown_events.specs.Nesting.{AreNested, without_ranges}
use Rattle.markdown_events.specs.TextMerge.{AreParted, items}
use Rattle.markdown_events.proofs.text_merge.KeptLaws.{merged_at_boundaries, merged_balance, merged_nest, merged_within}
use Rattle.markdown_events.proofs.text_merge.MergeLaws.{merged_items, merged_parted}
use Rattle.markdown_events.proofs.text_merge.TextMergeReader.new.Goals as goal

pub returns-clause-events : goal.returns-clause-events
returns-clause-events c = λ more events g. (g.rest, g.are_later, g.given)

pub returns-clause-parted : goal.returns-clause-parted
returns-clause-parted c = λ more events g. subst AreParted (sym g.given) (merged_parted g.rest)

pub returns-clause-same : goal.returns-clause-same
returns-clause-same c = λ more events g. (g.rest, g.are_later, ap items g.given ∙ merged_items g.rest)

pub returns-clause-balanced : goal.returns-clause-balanced
returns-clause-balanced c = λ more only events g. subst AreBalanced (sym g.given) (merged_balance g.rest (only g.rest g.are_later))

pub returns-clause-nested : goal.returns-clause-nested
returns-clause-nested c = λ more only events g.
    subst (λ all. AreNested (without_ranges all)) (sym g.given) (merged_nest g.rest (only g.rest g.are_later))

pub returns-clause-within : goal.returns-clause-within
returns-clause-within c = λ more page only events g.
    subst (AreWithin page) (sym g.given) (merged_within page g.rest (only g.rest g.are_later))

pub returns-clause-boundaries : goal.returns-clause-boundaries
returns-clause-boundaries c = λ more page only events g.
    subst (AreAtBoundaries page) (sym g.given) (merged_at_boundaries page g.rest (only g.rest g.are_later))
