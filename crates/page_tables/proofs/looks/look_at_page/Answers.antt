use Rattle.std.proofs.Common.{string_bytes}
use Rattle.std.proofs.lemmas.Result.{IfOk-weaker}
use Rattle.page_tables.specs.Looks.{made_text}
use Rattle.page_tables.proofs.LookLemmas.{look_bounded, look_printed}
use Rattle.page_tables.proofs.looks.look_at_page.Goals as goal

pub returns-clause-printed : goal.returns-clause-printed
returns-clause-printed c =
    IfOk-weaker c.look_at_text.result _ _
    (λ look said. look_printed c.args.checks c.args.name.now c.args.page.now (made_text c.args.page.now look.made) (string_bytes look.notes)
    (string_bytes look.lines) said)
    c.look_at_text.ensures.look

pub returns-clause-bounded : goal.returns-clause-bounded
returns-clause-bounded c =
    IfOk-weaker c.look_at_text.result _ _
    (λ look said. look_bounded c.args.checks c.args.name.now c.args.page.now (made_text c.args.page.now look.made) (string_bytes look.notes)
    (string_bytes look.lines) said)
    c.look_at_text.ensures.look
