use Rattle.std.proofs.Common.{◌+◌}
use Rattle.markdown_scanners_tree.proofs.ForCallers.{offset_of_rest}
use Rattle.markdown_scanners_tree.proofs.PrefixLemmas.{from_offset}
use Rattle.markdown_scanners_tree.proofs.SomeExactlyLemmas.{SomeExactly-from_none}
use Rattle.markdown_inlines.proofs.link_tails.LinkTailLemmas.{not_closed, titled_end}
use Rattle.markdown_inlines.proofs.link_tails.scan_titled_end.Goals as goal

pub returns-in_err-title-clause-found : goal.returns-in_err-title-clause-found
returns-in_err-title-clause-found c =
    SomeExactly-from_none _ c.from_residual.ensures (λ r is. c.in_err-title.ensures.found r.0 is.is_titled)

pub returns-in_err-closing-clause-found : goal.returns-in_err-closing-clause-found
returns-in_err-closing-clause-found c =
    SomeExactly-from_none _ c.from_residual-in_err-closing.ensures
    (not_closed c.args.bytes.now c.args.offset c.in_ok-title.title c.in_ok-title.ensures.only c.in_err-closing.ensures.found)

pub returns-clause-found : goal.returns-clause-found
returns-clause-found c =
    titled_end c.args.bytes.now c.args.offset c.in_ok-title.title c.in_ok-closing.closing c.in_ok-title.ensures.found
    c.in_ok-closing.ensures.found

pub returns-clause-after : goal.returns-clause-after
returns-clause-after c = λ utf8 at.
    let bytes = c.args.bytes.now in
    let end = c.in_ok-title.title.end + 1 in
    offset_of_rest _ bytes end c.in_ok-closing.closing (from_offset bytes end) utf8 (λ _. c.in_ok-title.ensures.after utf8 at)
    c.in_ok-closing.ensures.after
