use Rattle.markdown_blocks.proofs.content.parts.PlaceLemmas.{marker_here}
use Rattle.markdown_blocks.proofs.content.parts.pass_marker.Goals as goal

pub returns-clause-passed : goal.returns-clause-passed
returns-clause-passed c = λ t. (
  c.in-Some.field-0,
  marker_here c.args.start.now c.scan_space_upto-indent.new.self c.scan_space_upto-indent.result _ c.scan_space_upto-indent.ensures.answer
      c.scan_space_upto-indent.ensures.state (rw c.all_containers.ensures at c.in-Some.ensures.found),
)
