use Rattle.std.proofs.Common.{arith}
use Rattle.markdown_scanners_c.proofs.LabelRooms.{are_roomy}
use Rattle.markdown_scanners_c.proofs.inlines.returned_inlines.Goals as goal

pub inlines_returned-requires : goal.inlines_returned-requires
inlines_returned-requires c = are_roomy c.args.text.now (omega arith) _ c.in_ok-found.ensures.links
