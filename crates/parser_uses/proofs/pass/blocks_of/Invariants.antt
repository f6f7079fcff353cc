use Rattle.std.proofs.Common.{◌≡◌, ◌++◌, length, map}
use Rattle.std.specs.List.{concat}
use Rattle.parser_uses.proofs.pass.blocks_of.Given as goal

-- the blocks so far, and then the rest, are the page
abbrev pub invariant-loop-rest : goal.invariant-loop-rest
invariant-loop-rest l = concat (map (λ block. block.now) l.blocks.items) ++ l.rest ≡ l.page

abbrev pub decreases-loop-rest : goal.decreases-loop-rest
decreases-loop-rest l = length l.rest
