use Rattle.markdown_scanners_tree.proofs.ForCallers.{offset_of_rest}
use Rattle.markdown_scanners_tree.proofs.PrefixLemmas.{from_offset}
use Rattle.markdown_scanners_tree.proofs.SomeExactlyLemmas.{SomeExactly-from_none}
use Rattle.markdown_inlines.proofs.link_tails.LinkTailLemmas.{untitled_end, no_end}
use Rattle.markdown_inlines.proofs.link_tails.scan_end.Goals as goal

pub returns-in-Some-clause-found : goal.returns-in-Some-clause-found
returns-in-Some-clause-found c = untitled_end c.args.bytes.now c.args.offset c.in-Some.closing c.in-Some.ensures.found

pub returns-in-Some-clause-after : goal.returns-in-Some-clause-after
returns-in-Some-clause-after c = λ utf8 at.
    offset_of_rest _ c.args.bytes.now c.args.offset c.in-Some.closing (from_offset c.args.bytes.now c.args.offset) utf8
    (λ _. at) c.in-Some.ensures.after

pub returns-in_err-title-in-None-clause-found : goal.returns-in_err-title-in-None-clause-found
returns-in_err-title-in-None-clause-found c =
    SomeExactly-from_none _ c.from_residual.ensures (λ r.
    no_end c.args.bytes.now c.args.offset c.in-None.ensures.found c.in_err-title-in-None.ensures.found r.0 r.1)
