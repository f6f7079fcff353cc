use Rattle.std.proofs.Common.{◌∷◌, ◌∙◌}
use Rattle.std.proofs.lemmas.Result.{IfOk-weaker}
use Rattle.page_links.proofs.DefinitionLemmas.{lines_taken}
use Rattle.page_links.proofs.definitions.definition_in.Goals as goal

pub returns : goal.returns
returns c = IfOk-weaker c.named_at.result _ _ (λ found named line later are.
    let taken = lines_taken _ _ (line ∷ later) c.block.result.taken c.block.ensures.bytes c.block.ensures.lines are in
    let content = rw (c.bytes_from-lines.ensures, c.new-content.ensures.items, c.block.ensures.kind) at c.in_ok-add_content.ensures in
    rw (c.deref.ensures.value ∙ content line later taken) at named) c.named_at.ensures
