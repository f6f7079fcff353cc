use Rattle.std.proofs.Common.{◌≡◌, ◌+◌, ◌-◌, ◌≤◌, length}
use Rattle.std.specs.List.{prefix_len}
use Rattle.markdown_inlines.specs.WikiLinks.{is_target_byte}
use Rattle.markdown_inlines.proofs.wiki_links.target_len.Given as goal

-- What has been passed over are bytes of the target.
abbrev pub invariant-loop-rest : goal.invariant-loop-rest
invariant-loop-rest l =
    (length l.rest ≤ length l.bytes)
    × (prefix_len is_target_byte l.bytes ≡ length l.bytes - length l.rest + prefix_len is_target_byte l.rest)

abbrev pub decreases-loop-rest : goal.decreases-loop-rest
decreases-loop-rest l = length l.rest
