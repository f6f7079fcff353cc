use Rattle.std.proofs.Common.{◌-◌, ◌≤◌, ◌≡◌, length}
use Rattle.std.specs.Vec.{vec_capacity, vec_len}
use Rattle.markdown_scanners_tree.specs.Handler.{Answers}
use Rattle.markdown_scanners_tree.proofs.scanners.html_tag.KeptCopy.{Copied}
use Rattle.markdown_scanners_tree.proofs.scanners.html_tag.copy_kept.Given as goal

abbrev pub invariant-loop-is_last : goal.invariant-loop-is_last
invariant-loop-is_last g l =
    Copied (Answers g.F.Fn l.handler) l.bytes l.offset l.kept l.buffer.items
    × (l.offset ≤ length l.bytes)
    × (l.kept ≤ vec_capacity l.buffer)
    × (vec_len l.buffer ≡ length l.buffer.items)

abbrev pub decreases-loop-is_last : goal.decreases-loop-is_last
decreases-loop-is_last g l = l.kept - length l.buffer.items
