use Rattle.std.proofs.Common.{◌+◌, ◌-◌, subst, arith}
use Rattle.std.specs.Str.{IsCharBoundary}
use Rattle.markdown_scanners_tree.proofs.PrefixLemmas.{from_offset}
use Rattle.markdown_scanners_tree.proofs.SomeExactlyLemmas.{SomeExactly-from_none}
use Rattle.markdown_scanners_tree.proofs.scanners.links.LinkLemmas.{offset_of_rest}
use Rattle.markdown_scanners_tree.proofs.scanners.reference_definitions.DefinitionLemmas.{no_gap, no_title_there, title_found}
use Rattle.markdown_scanners_tree.proofs.scanners.reference_definitions.OneDefinition.{one_separated_title}
use Rattle.markdown_scanners_tree.proofs.scanners.reference_definitions.scan_separated_title.Goals as goal

pub returns-then-start-offset-clause-found : goal.returns-then-start-offset-clause-found
returns-then-start-offset-clause-found c =
    no_gap c.args.bytes.now c.args.offset c.gap_len.result c.gap_len.ensures.gap (omega (arith, c.if-start-offset.true))

pub returns-in_err-taken-clause-found : goal.returns-in_err-taken-clause-found
returns-in_err-taken-clause-found c =
    SomeExactly-from_none _ c.from_residual.ensures
    (no_title_there c.args.bytes.now c.args.offset c.gap_len.result c.gap_len.ensures.gap c.in_err-taken.ensures.found)

pub returns-clause-found : goal.returns-clause-found
returns-clause-found c =
    title_found c.args.bytes.now c.args.offset c.gap_len.result c.gap_len.ensures.gap c.in_ok-taken.taken
    (omega (arith, c.if-start-offset.false)) c.gap_len.ensures.within c.in_ok-taken.ensures.found c.in_ok-taken.ensures.within.0

pub returns-clause-only : goal.returns-clause-only
returns-clause-only c = λ other is.
    one_separated_title c.args.bytes.now c.args.offset other _ is (returns-clause-found c)

pub returns-clause-title_cut : goal.returns-clause-title_cut
returns-clause-title_cut c = λ utf8 at.
    let bytes = c.args.bytes.now in
    let offset = c.args.offset in
    let gap = c.gap_len.result in
    let taken = c.in_ok-taken.taken in
    let here : IsCharBoundary bytes (offset + gap) =
    offset_of_rest _ bytes offset gap (from_offset bytes offset) utf8 (λ _. at) c.gap_len.ensures.after in (
      offset_of_rest _ bytes (offset + gap) 1 (from_offset bytes (offset + gap)) utf8 (λ _. here) c.in_ok-taken.ensures.begins,
      subst (IsCharBoundary bytes) (omega (arith, c.in_ok-taken.ensures.within.0))
          (offset_of_rest _ bytes (offset + gap) (taken - 1) (from_offset bytes (offset + gap)) utf8 (λ _. here)
          c.in_ok-taken.ensures.ends),
    )

pub returns-clause-after : goal.returns-clause-after
returns-clause-after c = λ utf8 at.
    let bytes = c.args.bytes.now in
    let offset = c.args.offset in
    let gap = c.gap_len.result in
    let taken = c.in_ok-taken.taken in
    let here : IsCharBoundary bytes (offset + gap) =
    offset_of_rest _ bytes offset gap (from_offset bytes offset) utf8 (λ _. at) c.gap_len.ensures.after in
    subst (IsCharBoundary bytes) (omega (arith, c.in_ok-taken.ensures.within.0))
    (offset_of_rest _ bytes (offset + gap) taken (from_offset bytes (offset + gap)) utf8 (λ _. here) c.in_ok-taken.ensures.after)
