use Rattle.std.proofs.Common.{[], ap, subst, inl}
use Rattle.std.proofs.lemmas.Result.{IfOk-weaker}
use Rattle.markdown_blocks.specs.containers.Containers.{Line, Rest}
use Rattle.markdown_blocks.specs.blocks.Leaves.{IsHead}
use Rattle.markdown_blocks.proofs.blocks.BlockLemmas.{ended_block, paragraph_block, setext_block, table_block}
use Rattle.markdown_blocks.proofs.blocks.ParagraphLemmas.{reached-first}
use Rattle.markdown_blocks.proofs.blocks.scan_paragraph.Goals as goal

pub returns-in_default : goal.returns-in_default
returns-in_default c = λ line h begins.
    paragraph_block c.args.text.now c.args.outer.now line c.args.rest.now c.args.first h (rw c.in_default.ensures.none tt) begins
    c.args.first (reached-first c.args.outer.now c.args.rest.now.text c.args.text.now c.args.first)
    (λ later all. (inl c.in_default.ensures.none, rw c.in_default.ensures.none tt))

pub returns-in-Some-head_columns : goal.returns-in-Some-head_columns
returns-in-Some-head_columns c = λ line h begins.
    let there = subst (λ (l : Line). IsHead l.outer c.rest.inside.text.now c.in-Some-head_columns.columns l.bytes) c.new-line.ensures c.in-Some-head_columns.ensures in
    let head = subst (λ (r : Rest). IsHead c.args.outer.now r.text c.in-Some-head_columns.columns c.in-Some.line.now) c.rest.view_is there in
    table_block c.args.text.now c.args.outer.now line c.args.rest.now c.args.first h
    c.in-Some-head_columns.columns c.in-Some.line.now c.in-Some.second c.take_rows.result begins c.in-Some.ensures.line head c.take_rows.ensures

pub returns-in-GoesOn : goal.returns-in-GoesOn
returns-in-GoesOn c =
    let text = ap (λ (r : Rest). r.text) c.rest.view_is in
    IfOk-weaker c.scan_lines.result _ _ (λ block given line h begins. given line c.in-Some.line.now h c.in-Some.ensures.line
    (rw (c.in-GoesOn.is, c.new-line.ensures, text) at (c.in_ok-next_line.ensures line [] h h)) begins
    (rw c.in-Some.ensures.line.parts (rw (c.new-line.ensures, text) at c.in_default-head_columns.ensures))) c.scan_lines.ensures

pub returns-in-Underlines : goal.returns-in-Underlines
returns-in-Underlines c = λ line h begins.
    let text = ap (λ (r : Rest). r.text) c.rest.view_is in
    setext_block c.args.text.now c.args.outer.now line c.args.rest.now c.args.first h
    (rw c.in-Some.ensures.line.parts (rw (c.new-line.ensures, text) at c.in_default-head_columns.ensures)) begins
    c.in-Some.line.now c.in-Underlines.level c.args.first c.in-Some.second
    (reached-first c.args.outer.now c.args.rest.now.text c.args.text.now c.args.first) c.in-Some.ensures.line
    (λ later all. rw (c.in-Underlines.is, c.new-line.ensures, text) at (c.in_ok-next_line.ensures line later h all))

pub returns-in-Ends : goal.returns-in-Ends
returns-in-Ends c = λ line h begins.
    let text = ap (λ (r : Rest). r.text) c.rest.view_is in
    ended_block c.args.text.now c.args.outer.now line c.args.rest.now c.args.first h
    (rw c.in-Some.ensures.line.parts (rw (c.new-line.ensures, text) at c.in_default-head_columns.ensures)) begins
    c.args.first c.in-Some.second c.in-Some.line.now
    (reached-first c.args.outer.now c.args.rest.now.text c.args.text.now c.args.first) c.in-Some.ensures.line
    (λ later all. rw (c.in-Ends.is, c.new-line.ensures, text) at (c.in_ok-next_line.ensures line later h all))
