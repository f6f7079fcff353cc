use Rattle.std.proofs.Common.{ℕ, List, ◌-◌, ◌≤◌, drop, length}
use Rattle.markdown_scanners_tree.specs.declared.scanners.reference_definitions.ReferenceDefinition.{ReferenceDefinition}
use Rattle.markdown_blocks.specs.definitions.Definitions.{AreDefinitions}
use Rattle.markdown_blocks.proofs.definitions.definitions_len.Given as goal

-- whatever definitions stand after those that are taken, all of them stand at the front
abbrev pub invariant-loop-definition : goal.invariant-loop-definition
invariant-loop-definition l =
    (l.taken ≤ length l.content)
    × ((more : List ReferenceDefinition) (rest : List ℕ) → AreDefinitions (drop l.taken l.content) more rest
    → (definitions : List ReferenceDefinition) × AreDefinitions l.content definitions rest)

abbrev pub decreases-loop-definition : goal.decreases-loop-definition
decreases-loop-definition l = length l.content - l.taken
