use Rattle.std.proofs.Common.{ap, inl}
use Rattle.markdown_blocks.specs.containers.Containers.{Rest}
use Rattle.markdown_blocks.proofs.blocks.BlockLemmas.{ended_block, headed_block, paragraph_block, setext_block}
use Rattle.markdown_blocks.proofs.blocks.ParagraphLemmas.{reached-second, reached-more, reached-tested, reached-end}
use Rattle.markdown_blocks.proofs.blocks.scan_lines.Goals as goal

pub loop-line-init : goal.loop-line-init
loop-line-init c = λ next n goes. reached-second c.args.outer.now c.args.rest.now.text c.args.text.now c.args.first c.args.second next n goes

pub loop-line-preserved : goal.loop-line-preserved
loop-line-preserved c = λ next n goes.
    reached-more c.args.outer.now c.args.rest.now.text c.args.text.now c.args.first c.loop-line.taken c.in-Some.more c.in-Some.line.now
    (reached-tested c.args.outer.now c.args.rest.now.text c.args.text.now c.args.first c.loop-line.before c.loop-line.taken c.in-Some.more c.in-Some.line.now
    c.begins_table.result (c.loop-line.invariant next n goes) c.in-Some.ensures.line c.if-begins_table.false
    (rw c.new-line.ensures at c.begins_table.ensures))
    c.in-Some.ensures.line
    (λ line later h all. rw (c.in-GoesOn.is, c.new-line.ensures, ap (λ (r : Rest). r.text) c.rest.view_is)
    at (c.in_ok-next_line.ensures line later h all))

pub returns-then-begins_table : goal.returns-then-begins_table
returns-then-begins_table c = λ line next h n goes begins no_table.
    headed_block c.args.text.now c.args.outer.now line c.args.rest.now c.args.first h no_table begins
    c.loop-line.before c.loop-line.taken c.in-Some.more c.in-Some.line.now (c.loop-line.invariant next n goes) c.in-Some.ensures.line
    (λ last lines two. ((rw c.new-line.ensures at c.begins_table.ensures) last lines two).0 c.if-begins_table.true)

pub returns-in-Underlines : goal.returns-in-Underlines
returns-in-Underlines c = λ line next h n goes begins no_table.
    setext_block c.args.text.now c.args.outer.now line c.args.rest.now c.args.first h no_table begins
    c.in-Some.line.now c.in-Underlines.level c.loop-line.taken c.in-Some.more
    (reached-tested c.args.outer.now c.args.rest.now.text c.args.text.now c.args.first c.loop-line.before c.loop-line.taken c.in-Some.more c.in-Some.line.now
    c.begins_table.result (c.loop-line.invariant next n goes) c.in-Some.ensures.line c.if-begins_table.false
    (rw c.new-line.ensures at c.begins_table.ensures))
    c.in-Some.ensures.line
    (λ later all. rw (c.in-Underlines.is, c.new-line.ensures, ap (λ (r : Rest). r.text) c.rest.view_is)
    at (c.in_ok-next_line.ensures line later h all))

pub returns-in-Ends : goal.returns-in-Ends
returns-in-Ends c = λ line next h n goes begins no_table.
    ended_block c.args.text.now c.args.outer.now line c.args.rest.now c.args.first h no_table begins c.loop-line.taken c.in-Some.more c.in-Some.line.now
    (reached-tested c.args.outer.now c.args.rest.now.text c.args.text.now c.args.first c.loop-line.before c.loop-line.taken c.in-Some.more c.in-Some.line.now
    c.begins_table.result (c.loop-line.invariant next n goes) c.in-Some.ensures.line c.if-begins_table.false
    (rw c.new-line.ensures at c.begins_table.ensures))
    c.in-Some.ensures.line
    (λ later all. rw (c.in-Ends.is, c.new-line.ensures, ap (λ (r : Rest). r.text) c.rest.view_is) at (c.in_ok-next_line.ensures line later h all))

pub returns-in_default : goal.returns-in_default
returns-in_default c = λ line next h n goes begins no_table.
    paragraph_block c.args.text.now c.args.outer.now line c.args.rest.now c.args.first h no_table begins c.loop-line.taken
    (reached-end c.args.outer.now c.args.rest.now.text c.args.text.now c.args.first c.loop-line.before c.loop-line.taken
    (c.loop-line.invariant next n goes) c.in_default.ensures.none)
    (λ later all. (inl c.in_default.ensures.none, rw c.in_default.ensures.none tt))
