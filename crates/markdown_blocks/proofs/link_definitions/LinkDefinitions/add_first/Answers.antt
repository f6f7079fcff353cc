use Rattle.std.proofs.Common.{[], ap}
use Rattle.markdown_blocks.specs.link_definitions.LinkDefinitions.{target_in}
use Rattle.markdown_blocks.proofs.taken.TakenLemmas.{slice_after}
use Rattle.markdown_blocks.proofs.link_definitions.NamedLemmas.{none_later, is_named, unnamed}
use Rattle.markdown_blocks.proofs.link_definitions.LinkDefinitions.add_first.Goals as goal

pub returns-in_default-clause-added : goal.returns-in_default-clause-added
returns-in_default-clause-added c =
    let none = rw (c.in_default.is, slice_after c.args.text.now c.args.definition.now.label.start) at c.in_ok-label.ensures in
    ([], unnamed c.args.text.now c.args.definition.now c.requires.definition none, none_later c.args.self.now)

pub returns-clause-added : goal.returns-clause-added
returns-clause-added c =
    let found = rw (c.in-Some.is, slice_after c.args.text.now c.args.definition.now.label.start, ← c.as_str.ensures) at c.in_ok-label.ensures in (
      _,
      is_named c.args.text.now c.args.definition.now c.as_str.result.now c.in_ok-target.target.target found (ap target_in c.in_ok-target.ensures),
      c.in_ok-add.ensures.added,
    )
