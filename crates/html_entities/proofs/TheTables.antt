-- The tables of the crate pass their test.
use Rattle.std.proofs.Common.{refl}
use Rattle.html_entities.specs.declared.places.TheConstants.{SEEDS, PLACES}
use Rattle.html_entities.specs.Entities.{html_rows, names_of}
use Rattle.html_entities.specs.Places.{LeadToRows, hash_of, row_of}
use Rattle.html_entities.proofs.PlacesCheck.{LeadToRows-from_ok, below_ok, leads_ok}
use Rattle.html_entities.proofs.RowFacts.{the_rows}

pub tables_lead : LeadToRows SEEDS PLACES (names_of html_rows)
unfolding the_rows below_ok leads_ok hash_of row_of
tables_lead = LeadToRows-from_ok SEEDS PLACES (names_of html_rows) refl refl refl refl
