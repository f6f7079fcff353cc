use Rattle.std.proofs.Common.{append-nil, refl}
use Rattle.markdown_blocks.specs.content.Parts.{one_part}
use Rattle.markdown_blocks.proofs.content.line_content.Goals as goal

pub returns : goal.returns
returns c = c.lent.ensures (one_part c.args.offset c.args.text.now) (append-nil c.args.text.now, (refl, refl, tt))
