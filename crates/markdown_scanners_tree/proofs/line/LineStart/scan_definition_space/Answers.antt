use Rattle.std.proofs.Common.{ap, ◌∙◌}
use Rattle.markdown_scanners_tree.specs.line.State.{after_space}
use Rattle.markdown_scanners_tree.proofs.line.LineStart.scan_definition_space.Goals as goal

pub returns-clause-state : goal.returns-clause-state
returns-clause-state c = c.scan_space_upto.ensures.state ∙ ap (after_space 1) c.copy-before.ensures
