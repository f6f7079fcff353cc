use Rattle.std.proofs.Common.{sym, ap, ◌∙◌}
use Rattle.html_entities.specs.Places.{row_of}
use Rattle.html_entities.proofs.RowFacts.{name_count}
use Rattle.html_entities.proofs.lookup.number_of_row.Goals as goal

pub returns-clause-inside : goal.returns-clause-inside
returns-clause-inside c = rw c.row_in_tables.ensures (c.tables.ensures.inside c.args.name.now)

pub returns-clause-leads : goal.returns-clause-leads
returns-clause-leads c =
    λ k less same.
    c.row_in_tables.ensures
    ∙ (ap (row_of _ _) (sym same) ∙ c.tables.ensures.leads k (rw name_count less))
