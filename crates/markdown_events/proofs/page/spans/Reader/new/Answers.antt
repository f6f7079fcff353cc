use Rattle.markdown_events.proofs.page.ReadLemmas.{known_at_end}
use Rattle.markdown_events.proofs.page.spans.Reader.new.Goals as goal

pub returns : goal.returns
returns c = rw (c.nothing.ensures, c.new.ensures.items, c.new-2.ensures.items) known_at_end
