use Rattle.std.proofs.Common.{subst, sym}
use Rattle.markdown_events.specs.EventLaws.{AreAtBoundaries, AreBalanced, AreWithin}
use Rattle.markdown_events.specs.Nesting.{AreNested, without_ranges}
use Rattle.markdown_events.specs.Targets.{nowhere}
use Rattle.markdown_events.specs.page.Given.{GivesOnly, GivesWith, PageLeft}
use Rattle.markdown_events.proofs.page.ParserLemmas.{given_without}
use Rattle.markdown_events.proofs.text_merge.MergeLemmas.{merged_with, only_without}
use Rattle.markdown_events.proofs.text_merge_stream.TextMergeWithOffset.new.Goals as goal

pub returns-clause-events : goal.returns-clause-events
returns-clause-events c = λ given g.
    let found = c.new.ensures.events nowhere given (merged_with _ _ g) in
    (found.0, given_without _ _ (subst (λ (left : PageLeft). GivesWith nowhere left found.0) c.into_reader.ensures found.1), found.2)

pub returns-clause-parted : goal.returns-clause-parted
returns-clause-parted c = λ given g. c.new.ensures.parted nowhere given (merged_with _ _ g)

pub returns-clause-same : goal.returns-clause-same
returns-clause-same c = λ given g.
    let found = c.new.ensures.same nowhere given (merged_with _ _ g) in
    (found.0, given_without _ _ (subst (λ (left : PageLeft). GivesWith nowhere left found.0) c.into_reader.ensures found.1), found.2)

pub returns-clause-balanced : goal.returns-clause-balanced
returns-clause-balanced c = λ only.
    only_without AreBalanced _ _ (c.new.ensures.balanced nowhere) (subst (GivesOnly AreBalanced) (sym c.into_reader.ensures) only)

pub returns-clause-nested : goal.returns-clause-nested
returns-clause-nested c = λ only.
    only_without (λ all. AreNested (without_ranges all)) _ _ (c.new.ensures.nested nowhere)
    (subst (GivesOnly (λ all. AreNested (without_ranges all))) (sym c.into_reader.ensures) only)

pub returns-clause-within : goal.returns-clause-within
returns-clause-within c = λ page only.
    only_without (AreWithin page) _ _ (c.new.ensures.within nowhere page) (subst (GivesOnly (AreWithin page)) (sym c.into_reader.ensures) only)

pub returns-clause-boundaries : goal.returns-clause-boundaries
returns-clause-boundaries c = λ page only.
    only_without (AreAtBoundaries page) _ _ (c.new.ensures.boundaries nowhere page)
    (subst (GivesOnly (AreAtBoundaries page)) (sym c.into_reader.ensures) only)
