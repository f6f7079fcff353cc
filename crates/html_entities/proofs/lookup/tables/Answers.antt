use Rattle.html_entities.proofs.TheTables.{tables_lead}
use Rattle.html_entities.proofs.lookup.tables.Goals as goal

pub returns : goal.returns
returns c = tables_lead
