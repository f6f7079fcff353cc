use Rattle.std.proofs.Common.{◌≡◌, ◌++◌, length, map}
use Rattle.std.specs.List.{concat}
use Rattle.parser_uses.proofs.lines.list_items.Given as goal

-- the items so far, and then the rest, are the text
abbrev pub invariant-loop-rest : goal.invariant-loop-rest
invariant-loop-rest l = concat (map (λ item. item.now) l.items.items) ++ l.rest ≡ l.text

abbrev pub decreases-loop-rest : goal.decreases-loop-rest
decreases-loop-rest l = length l.rest
