use Rattle.std.proofs.Common.{subst, sym}
use Rattle.markdown_events.specs.EventLaws.{AreAtBoundaries, AreBalanced, AreWithin}
use Rattle.markdown_events.specs.Nesting.{AreNested, without_ranges}
use Rattle.markdown_events.specs.page.Given.{Gives, GivesOnly}
use Rattle.markdown_events.specs.page.Iterated.{Iterated}
use Rattle.markdown_events.proofs.text_merge_stream.TextMergeStream.new.Goals as goal

pub returns-clause-events : goal.returns-clause-events
returns-clause-events c = λ events g.
    let found = c.new.ensures.events events g in
    (found.0, subst (λ (parser : Iterated). Gives parser.left found.0) c.into_offset_iter.ensures found.1, found.2)

pub returns-clause-same : goal.returns-clause-same
returns-clause-same c = λ events g.
    let found = c.new.ensures.same events g in
    (found.0, subst (λ (parser : Iterated). Gives parser.left found.0) c.into_offset_iter.ensures found.1, found.2)

pub returns-clause-balanced : goal.returns-clause-balanced
returns-clause-balanced c = λ only.
    c.new.ensures.balanced (subst (λ (parser : Iterated). GivesOnly AreBalanced parser.left) (sym c.into_offset_iter.ensures) only)

pub returns-clause-nested : goal.returns-clause-nested
returns-clause-nested c = λ only.
    c.new.ensures.nested (subst (λ (parser : Iterated). GivesOnly (λ all. AreNested (without_ranges all)) parser.left) (sym c.into_offset_iter.ensures) only)

pub returns-clause-within : goal.returns-clause-within
returns-clause-within c = λ page only.
    c.new.ensures.within page (subst (λ (parser : Iterated). GivesOnly (AreWithin page) parser.left) (sym c.into_offset_iter.ensures) only)

pub returns-clause-boundaries : goal.returns-clause-boundaries
returns-clause-boundaries c = λ page only.
    c.new.ensures.boundaries page (subst (λ (parser : Iterated). GivesOnly (AreAtBoundaries page) parser.left) (sym c.into_offset_iter.ensures) only)
