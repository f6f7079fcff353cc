-- What is passed and what stands at the front of the rest is what stands at the front.
use Rattle.std.proofs.Common.{◌≡◌, ◌+◌, ◌-◌, ◌≤◌, length}
use Rattle.std.specs.List.{prefix_len}
use Rattle.page_tables.specs.Layout.{is_before_row}
use Rattle.page_tables.proofs.layout.space_len.Given as goal

abbrev pub invariant-loop-rest : goal.invariant-loop-rest
invariant-loop-rest l =
    (length l.rest ≤ length l.bytes)
    × ((length l.bytes - length l.rest) + prefix_len is_before_row l.rest ≡ prefix_len is_before_row l.bytes)

abbrev pub decreases-loop-rest : goal.decreases-loop-rest
decreases-loop-rest l = length l.rest
