use Rattle.std.proofs.Common.{ap, ◌∙◌}
use Rattle.std.specs.Prelude.{option_map}
use Rattle.markdown_blocks.specs.link_definitions.LinkDefinitions.{target_in}
use Rattle.markdown_blocks.proofs.link_definitions.NamedLemmas.{found_by_order}
use Rattle.markdown_blocks.proofs.link_definitions.LinkDefinitions.get.Goals as goal

pub returns : goal.returns
returns c =
    rw (← c.self.view_is, ← c.in_ok-key.ensures)
    (ap (option_map target_in) (c.get.ensures.value ∙ found_by_order c.self.inside.by_key.entries c.in_ok-key.key))
