use Rattle.std.proofs.Common.{arith}
use Rattle.std.proofs.lemmas.Grind.{common_steps}
use Rattle.markdown_events.proofs.page.LevelLemmas.{parted_known}
use Rattle.markdown_events.proofs.page.levels.Level.is_parted.Goals as goal

pub returns-then-self : goal.returns-then-self
returns-then-self c = λ nodes same. grind (arith, common_steps, parted_known c.args.self nodes same)

pub returns-else-self : goal.returns-else-self
returns-else-self c = λ nodes same. grind (arith, common_steps, parted_known c.args.self nodes same)
