use Rattle.markdown_blocks.proofs.page_events.page_events.Goals as goal

pub returns-clause-page : goal.returns-clause-page
returns-clause-page c = rw c.none.ensures at c.page_events_ext.ensures.page
