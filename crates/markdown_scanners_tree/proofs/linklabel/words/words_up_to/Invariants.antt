use Rattle.std.proofs.Common.{◌≤◌, ◌-◌, length}
use Rattle.markdown_scanners_tree.specs.linklabel.private.Words.{AreWords}
use Rattle.markdown_scanners_tree.proofs.linklabel.words.words_up_to.Given as goal

abbrev pub invariant-loop-offset : goal.invariant-loop-offset
invariant-loop-offset l = record {
  within : l.offset ≤ length l.bytes;
  forward : l.from ≤ l.offset;
  words : AreWords l.is_in_table l.bytes l.offset;
}

abbrev pub decreases-loop-offset : goal.decreases-loop-offset
decreases-loop-offset l = l.end - l.offset
