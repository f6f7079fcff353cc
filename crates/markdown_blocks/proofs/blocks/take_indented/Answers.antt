use Rattle.std.proofs.Common.{inr}
use Rattle.markdown_blocks.proofs.kinds.KindLemmas.{not_given}
use Rattle.markdown_blocks.proofs.blocks.IndentedLemmas.{seen-first, seen-blank, seen-code, seen-ends, text_ends, blank_given}
use Rattle.markdown_blocks.proofs.blocks.take_indented.Goals as goal

pub loop-line-init : goal.loop-line-init
loop-line-init c = λ lines h. seen-first c.args.outer.now c.args.text.now lines c.args.first h

pub returns-then-not-is_indented : goal.returns-then-not-is_indented
returns-then-not-is_indented c = λ lines h.
    seen-ends c.args.outer.now c.args.text.now lines c.loop-line.taken c.loop-line.seen (c.loop-line.invariant lines h)
    (rw c.in-Some.ensures.line.parts (inr (text_ends c.args.outer.now c.in-Some.line.now ((rw c.new-line.ensures at c.ends.ensures).0 c.if-ends.true)
    (not_given c.if-not-is_indented.true (rw c.new-line.ensures at c.is_indented.ensures).1))))

pub loop-line-preserved-else-not-is_indented : goal.loop-line-preserved-else-not-is_indented
loop-line-preserved-else-not-is_indented c = λ lines h.
    seen-code c.args.outer.now c.args.text.now lines c.loop-line.taken c.loop-line.seen c.in-Some.more c.in-Some.line.now (c.loop-line.invariant lines h)
    c.in-Some.ensures.line ((rw c.new-line.ensures at c.ends.ensures).0 c.if-ends.true)
    ((rw c.new-line.ensures at c.is_indented.ensures).0 c.if-not-is_indented.false)

pub loop-line-preserved : goal.loop-line-preserved
loop-line-preserved c = λ lines h.
    seen-blank c.args.outer.now c.args.text.now lines c.loop-line.taken c.loop-line.seen c.in-Some.more c.in-Some.line.now (c.loop-line.invariant lines h)
    c.in-Some.ensures.line (blank_given c.args.outer.now c.in-Some.line.now (not_given c.if-ends.false (rw c.new-line.ensures at c.ends.ensures).1))

pub returns : goal.returns
returns c = λ lines h.
    seen-ends c.args.outer.now c.args.text.now lines c.loop-line.taken c.loop-line.seen (c.loop-line.invariant lines h) (rw c.in_default.ensures.none tt)
