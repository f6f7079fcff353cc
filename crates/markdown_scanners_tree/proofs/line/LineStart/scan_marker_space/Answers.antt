use Rattle.std.proofs.Common.{◌<◌, ◌∙◌, arith}
use Rattle.std.proofs.lemmas.Grind.{elements, common_steps}
use Rattle.markdown_scanners_tree.proofs.line.StepLemmas.{no_space_taken}
use Rattle.markdown_scanners_tree.proofs.line.LineStart.scan_marker_space.Goals as goal

pub returns-then-columns-eq4-clause-state : goal.returns-then-columns-eq4-clause-state
returns-then-columns-eq4-clause-state c =
    let small : c.args.self.now.phase < 4 = rw (← c.self.view_is) (omega arith) in
    c.self-then-columns-eq4.view_is ∙ c.copy-before.ensures ∙ no_space_taken c.args.self.now small

pub returns-then-columns-eq4-clause-columns : goal.returns-then-columns-eq4-clause-columns
returns-then-columns-eq4-clause-columns c = grind (arith, elements)

pub returns-clause-columns : goal.returns-clause-columns
returns-clause-columns c = grind (arith, common_steps)
