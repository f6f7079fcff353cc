use Rattle.std.proofs.Common.{◌+◌, subst, arith, rules}
use Rattle.markdown_scanners_tree.specs.scanners.reference_definitions.ReferenceDefinition.{IsEnd}
use Rattle.markdown_scanners_tree.proofs.SomeExactlyLemmas.{SomeExactly-from_none}
use Rattle.markdown_scanners_tree.proofs.scanners.reference_definitions.DefinitionLemmas.{title_cut}
use Rattle.markdown_scanners_tree.proofs.scanners.reference_definitions.OneDefinition.{one_target, one_reference_definition}
use Rattle.markdown_scanners_tree.proofs.scanners.reference_definitions.scan_definition.Goals as goal

pub returns-in_err-target-clause-found : goal.returns-in_err-target-clause-found
returns-in_err-target-clause-found c =
    SomeExactly-from_none _ c.from_residual.ensures (λ d is.
    c.in_err-target.ensures.found (record { label = d.label; destination = d.destination; offset = is.offset }) is.target)

pub returns-in_err-title-clause-found : goal.returns-in_err-title-clause-found
returns-in_err-title-clause-found c =
    let bytes = c.args.bytes.now in
    SomeExactly-from_none _ c.from_residual-in_err-title.ensures (λ d is.
    (let same =
    one_target (c.args.max_next + 1) bytes d.label d.destination is.offset c.in_ok-target.target.label
    c.in_ok-target.target.destination c.in_ok-target.target.offset is.target c.in_ok-target.ensures.found in
    c.in_err-title.ensures.found (d.title, d.len) (subst (λ p. IsEnd bytes p d.title d.len) same.2 is.ends)))

pub returns-clause-only : goal.returns-clause-only
returns-clause-only c = λ other is.
    one_reference_definition (c.args.max_next + 1) c.args.bytes.now other _ is (record {
      offset = c.in_ok-target.target.offset;
      target = c.in_ok-target.ensures.found;
      ends = c.in_ok-title.ensures.found;
    })

pub returns-clause-parts : goal.returns-clause-parts
returns-clause-parts c =
    let target = c.in_ok-target.ensures in
    let end = c.in_ok-title.ensures in
    record {
      within = end.within.1;
      label = target.label;
      destination = (target.destination.0, omega (arith, target.destination.1, end.within.0));
      title = search rules;
      label_cut = target.label_cut;
      destination_cut = target.destination_cut;
      title_cut = title_cut c.args.bytes.now c.in_ok-target.target.offset c.in_ok-title.title end.title_cut target.after;
      after = λ utf8. end.after utf8 (target.after utf8);
    }
