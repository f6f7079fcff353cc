use Rattle.std.proofs.Common.{refl}
use Rattle.html_entities.proofs.PartsCheck.{AreParts-from_ok, parts_ok}
use Rattle.html_entities.proofs.RowFacts.{the_rows}
use Rattle.html_entities.proofs.lookup.names.Goals as goal

pub returns : goal.returns
unfolding the_rows parts_ok
returns c = AreParts-from_ok _ _ _ refl
