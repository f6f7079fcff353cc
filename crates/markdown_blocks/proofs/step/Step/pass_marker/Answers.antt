use Rattle.markdown_blocks.proofs.block_events.PartLemmas.{marker_passed}
use Rattle.markdown_blocks.proofs.step.Step.pass_marker.Goals as goal

pub returns-clause-passed : goal.returns-clause-passed
returns-clause-passed c =
    marker_passed c.args.self.now.start c.scan_space_upto-indent.new.self c.scan_container.new.start c.scan_space_upto-indent.result
    c.scan_container.result c.scan_space_upto-indent.ensures.answer c.scan_space_upto-indent.ensures.state
    (rw c.all_containers.ensures at c.scan_container.ensures.found)
    (rw c.all_containers.ensures at c.scan_container.ensures.none) c.scan_container.ensures.unchanged
