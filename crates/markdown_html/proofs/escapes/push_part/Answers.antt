use Rattle.std.proofs.Common.{string_bytes}
use Rattle.markdown_html.proofs.escapes.AddressParts.{part_pushed, part_shorter}
use Rattle.markdown_html.proofs.escapes.push_part.Goals as goal

pub returns-clause-address : goal.returns-clause-address
returns-clause-address c =
    part_pushed c.args.address.now c.range.result.now c.range_from-rest.result.now c.range-2.result.now c.range_from.result.now
    (string_bytes c.args.out.now) (string_bytes c.push_str.new.self) (string_bytes c.push_encoded.new.out) c.standing_len-standing.result
    c.encoded_len-encoded.result c.standing_len-standing.ensures.count c.range.ensures.value c.range_from-rest.ensures.value
    c.range-2.ensures.value c.range_from.ensures.value c.in_ok-push_str.ensures.bytes c.in_ok-push_encoded.ensures

pub returns-clause-shorter : goal.returns-clause-shorter
returns-clause-shorter c =
    part_shorter c.args.address.now c.range_from-rest.result.now c.range_from.result.now c.standing_len-standing.result
    c.encoded_len-encoded.result c.requires c.standing_len-standing.ensures.count c.range_from-rest.ensures.value
    c.encoded_len-encoded.ensures.count c.range_from.ensures.value
