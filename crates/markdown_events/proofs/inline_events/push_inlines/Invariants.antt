-- What is written of the inlines that are left makes, after what is written, the events of all.
use Rattle.markdown_events.proofs.inline_events.PassLemmas.{Goes}
use Rattle.markdown_events.proofs.inline_events.push_inlines.Given as goal

abbrev pub invariant-loop-inline : goal.invariant-loop-inline
invariant-loop-inline g l = Goes l.source (g.D.Definitions.targets l.definitions) l.links l.inlines l.inline-index l.writer
