use Rattle.markdown_scanners_tree.proofs.PrefixLemmas.{from_offset}
use Rattle.markdown_scanners_tree.proofs.SomeExactlyLemmas.{SomeExactly-from_none}
use Rattle.markdown_scanners_tree.proofs.scanners.links.LinkLemmas.{offset_of_rest}
use Rattle.markdown_scanners_tree.proofs.scanners.reference_definitions.DefinitionLemmas.{untitled, no_end}
use Rattle.markdown_scanners_tree.proofs.scanners.reference_definitions.scan_end.Goals as goal

pub returns-in_err-ending-in-None-clause-found : goal.returns-in_err-ending-in-None-clause-found
returns-in_err-ending-in-None-clause-found c =
    SomeExactly-from_none _ c.from_residual.ensures (λ r.
    no_end c.args.bytes.now c.args.offset c.in-None.ensures.found c.in_err-ending-in-None.ensures.found r.0 r.1)

pub returns-in_ok-ending-in-None-clause-found : goal.returns-in_ok-ending-in-None-clause-found
returns-in_ok-ending-in-None-clause-found c =
    untitled c.args.bytes.now c.args.offset c.in_ok-ending-in-None.ending c.in-None.ensures.found c.in_ok-ending-in-None.ensures.found

pub returns-in_ok-ending-in-None-clause-after : goal.returns-in_ok-ending-in-None-clause-after
returns-in_ok-ending-in-None-clause-after c = λ utf8 at.
    offset_of_rest _ c.args.bytes.now c.args.offset c.in_ok-ending-in-None.ending (from_offset c.args.bytes.now c.args.offset) utf8
    (λ _. at) c.in_ok-ending-in-None.ensures.after
