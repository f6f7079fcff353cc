use Rattle.markdown_events.proofs.page.IteratedLemmas.{next_event_without}
use Rattle.markdown_events.proofs.parser.ParserIterator.next.Goals as goal

pub returns-clause-steps : goal.returns-clause-steps
returns-clause-steps c = next_event_without c.args.self.now c.next_with.result c.next_with.new.self c.next_with.ensures.next
