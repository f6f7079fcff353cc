use Rattle.std.proofs.Common.{◌==◌, ◌≢◌, [], length, ap, sym, ◌∙◌}
use Rattle.std.proofs.lemmas.Bool.{false≢true}
use Rattle.markdown_scanners_tree.specs.scanners.Fences.{IsClosingCodeFence}
use Rattle.markdown_blocks.proofs.kinds.KindLemmas.{some_given}
use Rattle.markdown_blocks.proofs.blocks.endings.closes_fence.Goals as goal

pub returns-then-rest-ne4 : goal.returns-then-rest-ne4
returns-then-rest-ne4 c =
    let given = some_given (IsClosingCodeFence c.rest.inside.text.now c.args.byte c.args.count) c.scan_closing_code_fence.result c.is_some.result
    c.is_some.ensures c.scan_closing_code_fence.ensures.found in
    let some : c.rest.inside.text.now ≢ [] = λ none. false≢true (sym c.if-is_empty.false ∙ c.is_empty.ensures ∙ ap (λ t. length t == 0) none) in
    rw (← c.rest.view_is) (λ t. let fence = given.0 t in (c.if-rest-ne4.true, some, fence.0, fence.1), λ closes. given.1 (closes.2, closes.3))
