use Rattle.std.proofs.Common.{◌≤◌, ◌-◌, false, length}
use Rattle.markdown_scanners_tree.specs.linklabel.private.Words.{AreWords}
use Rattle.markdown_inlines.proofs.plain_labels.words_len.Given as goal

abbrev pub invariant-loop-words : goal.invariant-loop-words
invariant-loop-words l = record { within : l.words ≤ length l.bytes; words : AreWords false l.bytes l.words }

abbrev pub decreases-loop-words : goal.decreases-loop-words
decreases-loop-words l = length l.bytes - l.words
