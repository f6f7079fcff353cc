use Rattle.std.proofs.Common.{[], ◌∷◌, ◌++◌, ap, ◌∙◌, append_assoc}
use Rattle.page_tables.specs.Columns.{widened}
use Rattle.page_tables.proofs.FilledLemmas.{widened_none}
use Rattle.page_tables.proofs.columns.push_widened.Goals as goal

pub returns-in_default : goal.returns-in_default
returns-in_default g c = λ later.
    let width = g.W.CellWidths.width c.args.widths.now in
    let items = c.args.wide.now.items in
    rw c.in_default.ensures.none (rw c.in_default.ensures.done (rw c.in_ok-push.ensures.items
    (append_assoc items (c.args.column ∷ []) (widened width later [])
    ∙ ap (λ t. items ++ c.args.column ∷ t) (widened_none width later))))
