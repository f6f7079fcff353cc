use Rattle.std.proofs.Common.{ℕ, List, [], ◌∷◌, ◌-◌}
use Rattle.markdown_blocks.specs.taken.Lines.{IsTaken}
use Rattle.markdown_blocks.proofs.definitions.DefinitionLemmas.{Read}
use Rattle.markdown_blocks.proofs.definitions.add_lines.Given as goal

abbrev pub invariant-loop-read : goal.invariant-loop-read
invariant-loop-read l = (line : List ℕ) → IsTaken l.text l.fn.first (line ∷ [])
    → Read l.outer.containers l.words l.text line l.count l.read l.fn.content.items l.content.items

abbrev pub decreases-loop-read : goal.decreases-loop-read
decreases-loop-read l = l.count - l.read.lines
