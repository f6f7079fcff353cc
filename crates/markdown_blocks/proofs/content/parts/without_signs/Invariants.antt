-- Number signs alone stand after the end.
use Rattle.std.proofs.Common.{◌≡◌, ◌==◌, ◌+◌, ◌≤◌, length, take}
use Rattle.std.specs.List.{suffix_len}
use Rattle.markdown_scanners_tree.specs.Ascii.{number_sign}
use Rattle.markdown_blocks.proofs.content.parts.without_signs.Given as goal

abbrev pub invariant-loop-end : goal.invariant-loop-end
invariant-loop-end l =
    (l.end ≤ length l.text)
    × (l.end + suffix_len (λ b. b == number_sign) l.text ≡ length l.text + suffix_len (λ b. b == number_sign) (take l.end l.text))

abbrev pub decreases-loop-end : goal.decreases-loop-end
decreases-loop-end l = l.end
