use Rattle.markdown_html.proofs.AddressLemmas.{listed}
use Rattle.markdown_html.proofs.addresses.is_allowed_address.Goals as goal

pub returns-in-Some : goal.returns-in-Some
returns-in-Some c =
    listed (λ scheme. scheme.now) c.args.schemes.now c.args.address.now c.without_leading.result.now c.in-Some.written.now c.is_listed.result
    c.without_leading.ensures.url c.in-Some.ensures c.is_listed.ensures
