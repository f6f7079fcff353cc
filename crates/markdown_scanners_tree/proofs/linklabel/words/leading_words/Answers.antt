use Rattle.markdown_scanners_tree.specs.linklabel.private.Words.{none}
use Rattle.markdown_scanners_tree.proofs.linklabel.words.leading_words.Goals as goal

pub returns-in_default-clause-words : goal.returns-in_default-clause-words
returns-in_default-clause-words c = none

pub returns-in_default-2-clause-words : goal.returns-in_default-2-clause-words
returns-in_default-2-clause-words c = none
