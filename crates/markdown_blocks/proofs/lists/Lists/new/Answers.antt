use Rattle.markdown_blocks.proofs.lists.ListLemmas.{page_lists}
use Rattle.markdown_blocks.proofs.lists.Lists.new.Goals as goal

pub returns-clause-lists : goal.returns-clause-lists
returns-clause-lists c = λ nodes. rw c.new.ensures.items (page_lists nodes)
