use Rattle.std.proofs.Common.{rules, subst, sym}
use Rattle.markdown_events.specs.page.Iterated.{GivesNextEventWith, GivesNextWith}
use Rattle.markdown_events.proofs.page.IteratedLemmas.{given_without_range}
use Rattle.markdown_events.proofs.parser.Parser.next_with.Goals as goal

pub returns-clause-next : goal.returns-clause-next
returns-clause-next g c =
    let more = g.B.Definitions.targets c.args.broken.now in
    let gives : GivesNextWith more c.args.self.now c.next_with-item.result c.next_with-item.new.self = search rules in
    subst (λ item. GivesNextEventWith more c.args.self.now item c.next_with-item.new.self) (sym c.without_range.ensures)
    (given_without_range more c.args.self.now c.next_with-item.result c.next_with-item.new.self gives)
