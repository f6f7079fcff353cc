use Rattle.std.proofs.Common.{ap, ◌∙◌, drop}
use Rattle.markdown_scanners_tree.specs.Bytes.{begins_with}
use Rattle.markdown_scanners_tree.proofs.PrefixLemmas.{from_offset, begins_with-after_prefix}
use Rattle.markdown_html.specs.Addresses.{is_control_or_space}
use Rattle.markdown_html.proofs.AddressLemmas.{after_leading}
use Rattle.markdown_html.proofs.addresses.without_leading.Goals as goal

pub returns-clause-url : goal.returns-clause-url
returns-clause-url c =
    let address = c.args.address.now in
    from_offset address c.leading_len.result ∙ ap (λ n. drop n address) c.leading_len.ensures.count ∙ after_leading address

pub returns-clause-front : goal.returns-clause-front
returns-clause-front c =
    let address = c.args.address.now in
    ap (begins_with is_control_or_space) (from_offset address c.leading_len.result ∙ ap (λ n. drop n address) c.leading_len.ensures.count)
    ∙ begins_with-after_prefix is_control_or_space address
