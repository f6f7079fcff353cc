use Rattle.std.proofs.Common.{arith}
use Rattle.markdown_scanners_tree.proofs.inline_html.LeastPlaces.{occurs_at-slice}
use Rattle.markdown_inlines.proofs.piece_at.stands_at.Goals as goal

pub returns : goal.returns
returns c =
    occurs_at-slice c.args.bytes.now c.args.part.now c.args.offset (omega (arith, c.requires)) c.starts_with.result
    c.starts_with.ensures.value
