use Rattle.std.proofs.Common.{length, ◌-◌, ◌+◌, ◌≡◌, ◌≤◌, ◌<◌, ◌++◌, ℕ, List, drop, take, nat_lt}
use Rattle.std.specs.Str.{IsCharBoundary}
use Rattle.std.specs.String.{string_bytes, string_len, string_capacity}
use Rattle.markdown_scanners_tree.specs.Kept.{KeptByte}
use Rattle.markdown_scanners_tree.specs.Handler.{Skips}
use Rattle.markdown_scanners_tree.proofs.linklabel.SourceSteps.{IsAt}
use Rattle.markdown_scanners_tree.proofs.linklabel.SeenBytes.{Written}
use Rattle.markdown_scanners_tree.proofs.linklabel.write.write_label.Given as goal

abbrev pub invariant-loop-out : goal.invariant-loop-out
invariant-loop-out g l = record {
  within : l.ix ≤ length l.bytes;
  in_text : l.ix ≤ length l.text;
  after : l.mark ≤ l.end;
  ends : l.end ≤ l.ix;
  cut : IsCharBoundary l.text l.mark;
  gap : l.end < l.ix → IsCharBoundary l.text l.end × IsCharBoundary l.text l.ix;
  seen : List KeptByte;
  at : IsAt (Skips g.F.Fn l.handler) l.bytes l.escaped seen l.ix (drop l.ix l.bytes);
  pushed : List ℕ;
  written : Written l.is_in_table seen l.ix (drop l.ix l.bytes) (nat_lt 0 l.end) (nat_lt l.end l.ix) pushed;
  same : string_bytes l.initial.out ++ pushed ≡ string_bytes l.out ++ take (l.end - l.mark) (drop l.mark l.text);
  counts : string_len l.initial.out + length pushed ≡ string_len l.out + (l.end - l.mark);
  room : string_capacity l.initial.out ≤ string_capacity l.out;
}

abbrev pub decreases-loop-out : goal.decreases-loop-out
decreases-loop-out g l = length l.bytes - l.ix
