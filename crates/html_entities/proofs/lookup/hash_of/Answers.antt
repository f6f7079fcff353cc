use Rattle.std.proofs.Common.{arith}
use Rattle.std.proofs.lemmas.Grind.{common_steps}
use Rattle.html_entities.specs.Places.{hash_of}
use Rattle.html_entities.proofs.lookup.hash_of.Goals as goal

pub returns : goal.returns
unfolding hash_of
returns c = grind (arith, common_steps)
