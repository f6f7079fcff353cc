use Rattle.std.proofs.Common.{arith}
use Rattle.std.proofs.lemmas.Grind.{common_steps}
use Rattle.html_entities.specs.Places.{row_of}
use Rattle.html_entities.proofs.lookup.row_in_tables.Goals as goal

pub returns : goal.returns
unfolding row_of
returns c = grind (arith, common_steps)
