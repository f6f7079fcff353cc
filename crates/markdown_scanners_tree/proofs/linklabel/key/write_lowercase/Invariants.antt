use Rattle.std.proofs.Common.{◌≡◌, length, map, take}
use Rattle.std.specs.Char.{to_ascii_lowercase}
use Rattle.markdown_scanners_tree.proofs.linklabel.key.write_lowercase.Given as goal

abbrev pub invariant-loop-offset : goal.invariant-loop-offset
invariant-loop-offset g l = record {
  size : length l.lower ≡ 16;
  same : take l.offset l.lower ≡ map to_ascii_lowercase (take l.offset l.block);
}
