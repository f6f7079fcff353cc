use Rattle.std.proofs.Common.{ℕ, List, ◌≡◌, ◌-◌, ◌≤◌, drop, length}
use Rattle.markdown_blocks.specs.link_definitions.LinkDefinitions.{Named, HasDefinitions, first_of, known_before}
use Rattle.markdown_blocks.proofs.link_definitions.NamedLemmas.{Left}
use Rattle.markdown_blocks.proofs.link_definitions.LinkDefinitions.of_page_ext.Given as goal

-- whatever the blocks name that are left, the page has definitions that are known as if those were added
abbrev pub invariant-loop-content : goal.invariant-loop-content
invariant-loop-content l =
    (l.before ≤ length l.page)
    × ((later : List Named) → Left l.walk (drop l.before l.page) later → (named : List Named) × HasDefinitions l.fn.extensions l.page named
    × ((label : List ℕ) → known_before l.known later label ≡ first_of label named))

abbrev pub decreases-loop-content : goal.decreases-loop-content
decreases-loop-content l = length l.page - l.before
