use Rattle.std.proofs.Common.{◌≡◌, ◌++◌, ap, ◌∙◌}
use Rattle.std.proofs.lemmas.List.{take-append-drop}
use Rattle.parser_uses.proofs.Parts.{parts, parts-push}
use Rattle.parser_uses.proofs.pass.blocks_of.Goals as goal

pub loop-rest-preserved : goal.loop-rest-preserved
loop-rest-preserved c =
    let whole : c.split_at.result.0.now ++ c.split_at.result.1.now ≡ c.loop-rest.rest.now =
    rw (c.split_at.ensures.front, c.split_at.ensures.back) (take-append-drop c.block_length.result c.loop-rest.rest.now) in
    ap (λ blocks. parts blocks ++ c.split_at.result.1.now) c.in_ok-push.ensures.items ∙ parts-push c.loop-rest.blocks.items c.split_at.result.0 c.split_at.result.1.now
    ∙ ap (λ l. parts c.loop-rest.blocks.items ++ l) whole ∙ c.loop-rest.invariant
