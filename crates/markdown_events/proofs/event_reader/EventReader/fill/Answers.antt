use Rattle.markdown_events.proofs.page.ParserLemmas.{given_with, given_without}
use Rattle.markdown_events.proofs.event_reader.EventReader.fill.Goals as goal

pub returns-clause-same : goal.returns-clause-same
returns-clause-same c = λ events g. given_without _ _ (c.read_until_ready.ensures.same events (given_with _ _ g))
