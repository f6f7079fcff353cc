use Rattle.std.proofs.Common.{ℕ, List, ◌≡◌, None, refl}
use Rattle.markdown_blocks.specs.declared.events.BlockEvent.{BlockEvent}
use Rattle.markdown_blocks.specs.declared.events.BlockEvent.TheVariants.{Start, Block, End}
use Rattle.markdown_blocks.specs.declared.leaf.Leaf.{Leaf}
use Rattle.markdown_blocks.specs.events.Events.{seen_event}
use Rattle.markdown_blocks.specs.events.Shown.{IsWrittenIn}
use Rattle.page_blocks.proofs.definition.definition_of.Goals as goal

nothing_in : (content : List ℕ) (event : BlockEvent) → ((block : Leaf) → ¬ (event ≡ Block block))
    → (rest : List ℕ) × IsWrittenIn content (seen_event event) None rest
nothing_in content (Start container position) other = (content, (refl, refl))
nothing_in content (Block block) other = absurd (other block refl)
nothing_in content End other = (content, (refl, refl))

pub returns-in_default : goal.returns-in_default
returns-in_default c = nothing_in c.args.left.now c.args.event c.in_default.not-Block
