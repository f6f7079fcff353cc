use Rattle.std.proofs.Common.{◌+◌}
use Rattle.markdown_scanners_tree.proofs.PrefixLemmas.{from_offset}
use Rattle.markdown_scanners_tree.proofs.SomeExactlyLemmas.{SomeExactly-from_none}
use Rattle.markdown_scanners_tree.proofs.scanners.links.LinkLemmas.{offset_of_rest}
use Rattle.markdown_scanners_tree.proofs.scanners.reference_definitions.DefinitionLemmas.{something_further, title_line}
use Rattle.markdown_scanners_tree.proofs.scanners.reference_definitions.scan_title_line.Goals as goal

pub returns-in_err-title-clause-found : goal.returns-in_err-title-clause-found
returns-in_err-title-clause-found c =
    SomeExactly-from_none _ c.from_residual.ensures (λ r is. c.in_err-title.ensures.found r.0 is.is_titled)

pub returns-in_err-ending-clause-found : goal.returns-in_err-ending-clause-found
returns-in_err-ending-clause-found c =
    SomeExactly-from_none _ c.from_residual-in_err-ending.ensures
    (something_further c.args.bytes.now c.args.offset c.in_ok-title.title c.in_ok-title.ensures.only c.in_err-ending.ensures.found)

pub returns-clause-found : goal.returns-clause-found
returns-clause-found c =
    title_line c.args.bytes.now c.args.offset c.in_ok-title.title c.in_ok-ending.ending c.in_ok-title.ensures.found
    c.in_ok-ending.ensures.found

pub returns-clause-after : goal.returns-clause-after
returns-clause-after c = λ utf8 at.
    let bytes = c.args.bytes.now in
    let end = c.in_ok-title.title.end + 1 in
    offset_of_rest _ bytes end c.in_ok-ending.ending (from_offset bytes end) utf8 (λ _. c.in_ok-title.ensures.after utf8 at)
    c.in_ok-ending.ensures.after
