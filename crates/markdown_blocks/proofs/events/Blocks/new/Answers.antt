use Rattle.markdown_blocks.proofs.events.Blocks.new.Goals as goal

pub returns : goal.returns
returns c = record { page = rw c.none.ensures at c.new_ext.ensures.page }
