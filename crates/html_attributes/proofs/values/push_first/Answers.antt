use Rattle.std.proofs.Common.{◌∙◌, ◌∷◌, [], ◌++◌, ap, get_or, sym}
use Rattle.html_attributes.proofs.ValueLemmas.{means_itself, none_by_byte}
use Rattle.html_attributes.proofs.values.push_first.Goals as goal

pub returns-clause-first : goal.returns-clause-first
returns-clause-first g c =
    let value = c.args.value.now in
    let first = get_or value 0 0 in
    let means = means_itself (g.E.Entities.known c.args.entities.now) value c.requires.some
    (none_by_byte (g.E.Entities.known c.args.entities.now) value c.if-value-eq38.false) in
    let rest = ap (λ rest. (first ∷ []) ++ rest) (sym c.bytes_after.ensures.rest) in
    (record { source = first ∷ []; meaning = first ∷ [] }, means.0, means.1 ∙ rest, c.in_ok-push.ensures.items)
