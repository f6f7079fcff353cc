use Rattle.markdown_blocks.proofs.first_blocks.FirstLemmas.{page_firsts}
use Rattle.markdown_blocks.proofs.first_blocks.FirstBlocks.new.Goals as goal

pub returns-clause-found : goal.returns-clause-found
returns-clause-found c = page_firsts
