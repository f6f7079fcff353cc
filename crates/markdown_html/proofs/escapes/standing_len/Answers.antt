use Rattle.std.proofs.Common.{◌≡◌, refl, ◌∙◌, ap, arith, get_or}
use Rattle.std.specs.List.{prefix_len}
use Rattle.std.proofs.lemmas.Bool.{agree_below_at}
use Rattle.markdown_scanners_tree.proofs.ForCallers.{is_outside, prefix_alike}
use Rattle.markdown_html.specs.Escapes.{stands_in_address}
use Rattle.markdown_html.specs.declared.escapes.TheConstants.{ENCODED}
use Rattle.markdown_html.proofs.escapes.AddressParts.{standing_cut}
use Rattle.markdown_html.proofs.escapes.standing_len.Goals as goal

abbrev counted : (c : goal.After-len_outside) → c.len_outside.result ≡ prefix_len stands_in_address c.args.address.now
counted c =
    let bytes = c.args.address.now in
    c.len_outside.ensures.count ∙ ap (prefix_len (is_outside ENCODED)) c.as_bytes.ensures.value
    ∙ prefix_alike (is_outside ENCODED) stands_in_address bytes bytes refl (λ k less.
    agree_below_at (is_outside ENCODED) stands_in_address 256 (get_or bytes k 0) refl (omega (arith, c.type_inv.address k)))

pub returns-clause-count : goal.returns-clause-count
returns-clause-count c = counted c

pub returns-clause-cut : goal.returns-clause-cut
returns-clause-cut c = standing_cut c.args.address.now c.len_outside.result c.utf8.address (counted c)
