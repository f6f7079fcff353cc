use Rattle.std.proofs.Common.{refl, ◌∙◌, arith, get_or}
use Rattle.std.proofs.lemmas.Bool.{agree_below_at}
use Rattle.markdown_scanners_tree.proofs.PrefixLemmas.{prefix_alike}
use Rattle.markdown_scanners_tree.proofs.byte_sets.SetLanes.{is_outside}
use Rattle.markdown_scanners_tree.specs.scanners.classes.private.InDestination.{is_in_destination}
use Rattle.markdown_scanners_tree.specs.declared.scanners.destinations.TheConstants.{NESTS_ESCAPES_OR_ENDS}
use Rattle.markdown_scanners_tree.proofs.scanners.destinations.plain_len.Goals as goal

pub returns-clause-run : goal.returns-clause-run
returns-clause-run c =
    let bytes = c.args.bytes.now in
    c.len_outside.ensures.count
    ∙ prefix_alike (is_outside NESTS_ESCAPES_OR_ENDS) is_in_destination bytes bytes refl (λ k less.
    agree_below_at (is_outside NESTS_ESCAPES_OR_ENDS) is_in_destination 256 (get_or bytes k 0) refl (omega (arith, c.type_inv.bytes k)))
