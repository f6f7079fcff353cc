use Rattle.markdown_events.proofs.page.IteratedLemmas.{next_without}
use Rattle.markdown_events.proofs.parser.OffsetIterIterator.next.Goals as goal

pub returns-clause-steps : goal.returns-clause-steps
returns-clause-steps c = next_without c.args.self.now c.next_with.result c.next_with.new.self c.next_with.ensures.next
