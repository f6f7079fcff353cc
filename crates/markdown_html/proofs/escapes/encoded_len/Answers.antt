use Rattle.std.proofs.Common.{ap, ◌∙◌, not}
use Rattle.std.specs.List.{prefix_len}
use Rattle.markdown_html.specs.Escapes.{stands_in_address}
use Rattle.markdown_html.proofs.escapes.AddressParts.{encoded_cut}
use Rattle.markdown_html.proofs.escapes.encoded_len.Goals as goal

pub returns-clause-cut : goal.returns-clause-cut
returns-clause-cut c =
    encoded_cut c.args.address.now c.encoded_bytes_len.result
    (c.encoded_bytes_len.ensures ∙ ap (prefix_len (λ b. not (stands_in_address b))) c.as_bytes.ensures.value)
