use Rattle.std.proofs.Common.{◌++◌, ◌-◌, ◌∙◌, length, map, take, drop, ap, arith, take_all, length-drop}
use Rattle.markdown_scanners_c.specs.BlockLines.{begun_returned, open_returned}
use Rattle.markdown_scanners_c.proofs.block_lines.opened_returned.Goals as goal

pub returns : goal.returns
returns c =
    let containers = c.args.containers.now in
    let kept = c.args.step.kept in
    let start = c.args.step.start in
    let inner = take (length containers - kept) (drop kept containers) in
    let rest = take_all (length containers - kept) (drop kept containers) (omega (arith, length-drop kept containers)) in
    c.in_ok-add_begun.ensures ∙ ap (λ bs. bs ++ begun_returned start inner) c.in_ok-returned.ensures
    ∙ ap (λ cs. map (λ k. open_returned k 0) (take kept containers) ++ begun_returned start cs) rest
