use Rattle.std.proofs.Common.{append_assoc, codes, decimal, encode_utf8}
use Rattle.page_blocks.proofs.json.push_marker_json.Goals as goal

pub returns : goal.returns
returns c =
    rw (append_assoc (encode_utf8 c.args.delimiter) (codes "\",\"start\":") (decimal c.args.start), ← c.from.ensures) c.write.ensures.bytes
