use Rattle.std.proofs.Common.{◌≡◌, ◌-◌, ◌≤◌, length, map, drop}
use Rattle.std.specs.Ordering.{nat_cmp}
use Rattle.std.specs.Char.{to_ascii_lowercase}
use Rattle.std.specs.Cmp.Lexicographic.{slice_cmp}
use Rattle.markdown_scanners_tree.proofs.scanners.html_block.compare_in_lowercase.Given as goal

abbrev pub invariant-loop-i : goal.invariant-loop-i
invariant-loop-i l = record {
  in_row : l.i ≤ length l.letters;
  in_name : l.i ≤ length l.name;
  left : slice_cmp nat_cmp l.letters (map to_ascii_lowercase l.name)
      ≡ slice_cmp nat_cmp (drop l.i l.letters) (map to_ascii_lowercase (drop l.i l.name));
}

abbrev pub decreases-loop-i : goal.decreases-loop-i
decreases-loop-i l = length l.name - l.i
