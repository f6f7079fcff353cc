use Rattle.std.proofs.Common.{◌+◌, inl, inr, refl, sym, subst, arith}
use Rattle.std.proofs.lemmas.List.{take_rest}
use Rattle.markdown_scanners_tree.specs.scanners.links.LinkDestination.{IsLinkDestination}
use Rattle.markdown_scanners_c.specs.Parts.{IsDestinationPart}
use Rattle.markdown_scanners_c.proofs.Parts.{destination_at, stands_from, cut_destination}
use Rattle.markdown_scanners_c.proofs.inline.mds_scan_link_dest.Goals as goal

pub returns-in-Some-clause-part : goal.returns-in-Some-clause-part
unfolding IsDestinationPart
returns-in-Some-clause-part c =
    let bytes = c.args.bytes.now in
    let found = c.in-Some.ensures.found in
    let stands = c.in-Some.ensures.raw_text in
    let raw = c.in-Some.raw in
    inr (
      omega arith,
      inr (
        refl,
        stands_from c.args.start c.in-Some.taken raw.start raw.end stands.ordered.0 stands.inside,
        destination_at (c.args.max_next + 1) c.args.start c.in-Some.taken raw.start raw.end bytes _
            (take_rest bytes c.args.start) found,
      ),
    )

pub returns-in-Some-clause-boundary : goal.returns-in-Some-clause-boundary
returns-in-Some-clause-boundary c = λ text found.
    let bytes = c.args.bytes.now in
    let raw = c.in-Some.raw in
    let stands = c.in-Some.ensures.raw_text in
    cut_destination c.args.start c.in-Some.taken raw.start raw.end bytes _ (take_rest bytes c.args.start) text
    stands.ordered.0 stands.begins stands.ends stands.after

pub returns-in-None-clause-part : goal.returns-in-None-clause-part
unfolding IsDestinationPart
returns-in-None-clause-part c =
    let rest = take_rest c.args.bytes.now c.args.start in
    inr (
      omega arith,
      inl (
        c.no_part-in-None.ensures,
        λ r is. c.in-None.ensures.found r
            (subst (λ t. IsLinkDestination (c.args.max_next + 1) t r.0 r.1) (sym rest) is),
      ),
    )
