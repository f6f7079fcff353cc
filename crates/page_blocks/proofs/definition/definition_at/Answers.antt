use Rattle.std.proofs.Common.{drop, refl}
use Rattle.page_blocks.proofs.definition.definition_at.Goals as goal

pub returns-in-Some : goal.returns-in-Some
returns-in-Some c =
    let d = c.in-Some.found in (
      drop d.len c.args.content.now,
      (d, c.in-Some.ensures.found, rw (c.part_of-in-Some.ensures, c.part_of.ensures, c.title_of.ensures) refl, refl),
    )

pub returns-in-None : goal.returns-in-None
returns-in-None c = (c.args.content.now, (c.in-None.ensures.found, refl))
