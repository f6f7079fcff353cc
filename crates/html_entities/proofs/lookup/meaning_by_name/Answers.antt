use Rattle.std.proofs.Common.{◌<◌, length, Some, sym, ap, ◌∙◌, arith}
use Rattle.std.proofs.lemmas.Bool.{false≢true}
use Rattle.std.proofs.lemmas.Slice.Eq.{bytes_eq-Decides}
use Rattle.html_entities.specs.Entities.{html_entity, html_rows}
use Rattle.html_entities.proofs.LookupLemmas.{one_row, no_row}
use Rattle.html_entities.proofs.RowFacts.{row_count}
use Rattle.html_entities.proofs.lookup.meaning_by_name.Goals as goal

pub returns-then-eq : goal.returns-then-eq
unfolding html_entity
returns-then-eq c =
    let row = c.number_of_row-row.result in
    let same = (bytes_eq-Decides c.name_at.result.now c.args.name.now).0 (sym c.eq.ensures ∙ c.if-eq.true) in
    let inside : row < length html_rows = omega (arith, row_count, c.number_of_row-row.ensures.inside) in
    ap Some c.meaning_at.ensures
    ∙ sym (one_row html_rows c.args.name.now row
    (λ k less here. c.number_of_row-row.ensures.leads k (rw (← row_count) less) here)
    inside (sym c.name_at.ensures ∙ same))

pub returns-else-eq : goal.returns-else-eq
unfolding html_entity
returns-else-eq c =
    sym (no_row html_rows c.args.name.now c.number_of_row-row.result
    (λ k less here. c.number_of_row-row.ensures.leads k (rw (← row_count) less) here)
    (λ here. false≢true (sym c.if-eq.false ∙ (c.eq.ensures ∙ (bytes_eq-Decides c.name_at.result.now c.args.name.now).1 (c.name_at.ensures ∙ here)))))
