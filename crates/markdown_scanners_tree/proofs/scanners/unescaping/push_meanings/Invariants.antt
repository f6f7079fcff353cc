use Rattle.std.proofs.Common.{length, ◌-◌, ◌≤◌}
use Rattle.std.specs.String.{string_bytes, string_len, string_capacity}
use Rattle.markdown_scanners_tree.proofs.scanners.unescaping.PieceLemmas.{IsBuilt}
use Rattle.markdown_scanners_tree.proofs.scanners.unescaping.push_meanings.Given as goal

abbrev pub invariant-loop-i : goal.invariant-loop-i
invariant-loop-i g l = record {
  built : IsBuilt l.is_in_table (g.E.Entities.known l.entities) l.text l.i l.run (string_bytes l.initial.out)
      (string_len l.initial.out) (string_bytes l.out) (string_len l.out);
  capacity : string_capacity l.initial.out ≤ string_capacity l.out;
}

abbrev pub decreases-loop-i : goal.decreases-loop-i
decreases-loop-i g l = length l.text - l.i
