use Rattle.std.proofs.Common.{◌∙◌}
use Rattle.std.proofs.lemmas.List.{length-take-le}
use Rattle.markdown_blocks.proofs.definitions.CutLemmas.{taken_cut}
use Rattle.markdown_blocks.proofs.definitions.take_definition.Goals as goal

pub returns-clause-found : goal.returns-clause-found
returns-clause-found c =
    let bytes = c.count_lines.ensures.bytes ∙ length-take-le c.in_ok-definition.definition.len c.args.content.now c.in_ok-definition.ensures.within in (
      c.in_ok-definition.definition,
      c.in_ok-definition.ensures.found,
      bytes,
      taken_cut c.args.content.now c.in_ok-definition.definition c.count_lines.result c.in_ok-definition.ensures.within c.in_ok-definition.ensures.found bytes
          c.count_lines.ensures.lines,
    )
