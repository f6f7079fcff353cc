use Rattle.std.proofs.Common.{◌≤◌, ◌-◌, length}
use Rattle.markdown_scanners_tree.specs.linklabel.private.Words.{AreWords}
use Rattle.markdown_scanners_tree.proofs.linklabel.words.words_of_characters.Given as goal

abbrev pub invariant-loop-room : goal.invariant-loop-room
invariant-loop-room l = record {
  within : l.words ≤ length l.bytes;
  words : AreWords l.is_in_table l.bytes l.words;
}

abbrev pub decreases-loop-room : goal.decreases-loop-room
decreases-loop-room l = length l.bytes - l.words
