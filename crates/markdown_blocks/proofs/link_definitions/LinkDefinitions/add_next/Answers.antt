use Rattle.std.proofs.Common.{◌∙◌}
use Rattle.std.proofs.lemmas.List.{length-take-le}
use Rattle.markdown_blocks.proofs.definitions.CutLemmas.{taken_cut}
use Rattle.markdown_blocks.proofs.link_definitions.NamedLemmas.{first_added}
use Rattle.markdown_blocks.proofs.link_definitions.LinkDefinitions.add_next.Goals as goal

pub returns-clause-found : goal.returns-clause-found
returns-clause-found c =
    let found = c.in-Some.ensures in
    let bytes = c.count_lines.ensures.bytes ∙ length-take-le c.in-Some.definition.len c.args.content.now found.within in (
      c.in-Some.definition,
      found.found,
      bytes,
      taken_cut c.args.content.now c.in-Some.definition c.count_lines.result found.within found.found bytes c.count_lines.ensures.lines,
    )

pub returns-clause-added : goal.returns-clause-added
returns-clause-added c =
    let found = c.in-Some.ensures in
    let bytes = c.count_lines.ensures.bytes ∙ length-take-le c.in-Some.definition.len c.args.content.now found.within in
    let named = c.in_ok-add_first.ensures.added in
    first_added c.args.content.now c.in-Some.definition _ c.args.self.now _ named.0 found.found bytes named.1 named.2
