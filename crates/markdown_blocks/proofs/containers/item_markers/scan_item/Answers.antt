use Rattle.std.proofs.Common.{ℕ, sym, ap, ◌∙◌, arith}
use Rattle.markdown_scanners_tree.specs.line.Outcome.{Outcome}
use Rattle.markdown_scanners_tree.specs.line.State.{after_space}
use Rattle.markdown_blocks.specs.containers.Containers.{item_of}
use Rattle.markdown_blocks.specs.containers.ItemMarkers.{item_outcome}
use Rattle.markdown_blocks.specs.containers.private.Markers.{columns_left}
use Rattle.markdown_blocks.proofs.containers.ColumnsLeft.{item_left, no_item}
use Rattle.markdown_blocks.proofs.containers.ContainerLemmas.{item_given, blank_at}
use Rattle.markdown_blocks.proofs.containers.StartLemmas.{start_small}
use Rattle.markdown_blocks.proofs.containers.item_markers.scan_item.Goals as goal

pub returns-clause-found : goal.returns-clause-found
returns-clause-found c =
    let s = c.scan_plain_item.new.start in
    let after = c.pass_columns_left-further.new.start in
    let left = c.pass_columns_left-further.result in
    let state = c.in_ok-delimiter.ensures.state in
    let whole = item_left c.args.indent s after c.in_ok-delimiter.delimiter c.in_ok-delimiter.number c.in_ok-delimiter.width left
    c.in_ok-delimiter.ensures.answer (c.pass_columns_left-further.ensures.columns ∙ ap columns_left state)
    (λ none. c.pass_columns_left-further.ensures.none none ∙ state)
    (λ some. c.pass_columns_left-further.ensures.some some ∙ ap (after_space left) state) in
    ap (λ z. item_of (item_outcome c.args.indent z)) (sym c.in_default.ensures.unchanged)
    ∙ item_given (item_outcome c.args.indent s) after _ _ _ _
    (sym (ap (λ (o : Outcome (ℕ × ℕ × ℕ)). o.answer) whole)) (sym (ap (λ (o : Outcome (ℕ × ℕ × ℕ)). o.state) whole))
    (blank_at c.args.line.now after c.bytes_scanned.result c.is_blank.result
    c.pass_columns_left-further.ensures.bytes c.bytes_scanned.ensures.offset c.is_blank.ensures)

pub returns-in_err-delimiter-clause-none : goal.returns-in_err-delimiter-clause-none
returns-in_err-delimiter-clause-none c =
    rw c.from_residual.ensures (
    ap (λ z. item_of (item_outcome c.args.indent z)) (sym c.in_default.ensures.unchanged)
    ∙ no_item c.args.indent c.scan_plain_item.new.start (sym c.in_err-delimiter.ensures.answer))

pub overflow_cast-result-2 : goal.overflow_cast-result-2
overflow_cast-result-2 c =
    let small = start_small c.args.indent c.scan_plain_item.new.start _ _ _ c.in_ok-delimiter.ensures.answer in
    omega (arith, small)
