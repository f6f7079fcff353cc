use Rattle.std.proofs.Common.{◌-◌, ◌≤◌, ◌≡◌, length}
use Rattle.std.specs.Option.{IfNone}
use Rattle.markdown_scanners_tree.specs.scanners.html_tag.KeptTag.{AnswersIfAny}
use Rattle.markdown_scanners_tree.proofs.scanners.html_tag.TagScan.{Scanned}
use Rattle.markdown_scanners_tree.proofs.scanners.html_tag.measure_tag.Given as goal

abbrev pub invariant-loop-offset : goal.invariant-loop-offset
invariant-loop-offset g l =
    Scanned (AnswersIfAny g.F.Fn l.handler) l.bytes l.offset l.kept l.endings l.state
    × (l.offset ≤ length l.bytes)
    × (l.kept ≤ l.offset)
    × (l.endings ≤ l.kept)
    × IfNone l.handler (l.kept ≡ l.offset)

abbrev pub decreases-loop-offset : goal.decreases-loop-offset
decreases-loop-offset g l = length l.bytes - l.offset
