use Rattle.std.proofs.Common.{arith}
use Rattle.markdown_scanners_tree.specs.linklabel.private.Words.{none}
use Rattle.markdown_scanners_tree.proofs.linklabel.words.words_of_characters.Goals as goal

pub loop-room-init : goal.loop-room-init
loop-room-init c = record { within = omega arith; words = none }
