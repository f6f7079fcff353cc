use Rattle.std.proofs.Common.{sym, subst}
use Rattle.markdown_scanners_tree.proofs.ForCallers.{offset_of_rest}
use Rattle.std.specs.Option.{IfNone}
use Rattle.markdown_scanners_tree.proofs.PrefixLemmas.{from_offset}
use Rattle.markdown_inlines.specs.LinkTails.{IsLinkTail}
use Rattle.markdown_inlines.specs.Links.{HasNoTail}
use Rattle.std.specs.Option.{IfSome}
use Rattle.markdown_scanners_tree.specs.scanners.reference_definitions.ReferenceDefinition.{IsCutAt}
use Rattle.markdown_inlines.proofs.link_targets.TargetLemmas.{moved_cut}
use Rattle.markdown_inlines.proofs.link_targets.scan_inline_target.Goals as goal
use Rattle.markdown_inlines.proofs.link_targets.scan_inline_target.Goals.{in-Some, in-None}

pub returns-in_err-tail-clause-none : goal.returns-in_err-tail-clause-none
returns-in_err-tail-clause-none c = subst (λ r. IfNone r (HasNoTail c.args.bytes.now c.args.offset)) (sym c.from_residual.ensures)
    (λ tail is. c.in_err-tail.ensures.found tail (subst (λ rest. IsLinkTail 32 rest tail) (sym (from_offset c.args.bytes.now c.args.offset)) is))

pub returns-clause-boundary : goal.returns-clause-boundary
returns-clause-boundary c = λ utf8 at.
    offset_of_rest _ c.args.bytes.now c.args.offset c.in_ok-tail.tail.len (from_offset c.args.bytes.now c.args.offset) utf8 (λ _. at)
    c.in_ok-tail.ensures.after

pub returns-clause-source : goal.returns-clause-source
returns-clause-source c = λ utf8 at.
    let text = c.args.bytes.now in
    let offset = c.args.offset in
    let tail = c.in_ok-tail.tail in (
      moved_cut text offset tail.destination utf8 at c.in_ok-tail.ensures.destination_cut,
      elim c.match-tail.branch [
        | in-Some w ↦
            subst (λ title. IfSome title (IsCutAt text)) (sym w.title-is)
            (moved_cut text offset w.in-Some.title utf8 at (rw w.in-Some.is at c.in_ok-tail.ensures.title_cut))
        | in-None w ↦ subst (λ title. IfSome title (IsCutAt text)) (sym w.title-is) tt
      ],
    )
