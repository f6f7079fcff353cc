use Rattle.std.proofs.Common.{arith}
use Rattle.markdown_blocks.proofs.definitions.DefinitionLemmas.{read-first, read-more, read-all, read-end}
use Rattle.markdown_blocks.proofs.definitions.add_lines.Goals as goal

pub loop-read-init : goal.loop-read-init
loop-read-init c = λ line h.
    read-first c.args.outer.now.containers c.args.words.now c.args.text.now line c.args.count c.args.content.now.items c.args.first
    c.extend_from_slice.new.self.items h (rw c.without_front.ensures at c.in_ok-extend_from_slice.ensures.items)

pub loop-read-preserved : goal.loop-read-preserved
loop-read-preserved c = λ line h.
    read-more c.args.outer.now.containers c.args.words.now c.args.text.now line c.args.count c.args.content.now.items c.loop-read.read c.in-Some.more
    c.in-Some.line.now c.loop-read.content.items c.extend_from_slice-in-loop-read.new.self.items (c.loop-read.invariant line h)
    c.loop-read-test.true c.in-Some.ensures.line (rw c.words_in.ensures at c.in_ok-extend_from_slice-2.ensures.items)

pub returns-in_default : goal.returns-in_default
returns-in_default c = λ line h.
    read-end c.args.outer.now.containers c.args.words.now c.args.text.now line c.args.count c.args.content.now.items c.args.first
    c.loop-read.read c.loop-read.content.items h (c.loop-read.invariant line h) c.in_default.ensures.none

pub returns : goal.returns
returns c = λ line h.
    read-all c.args.outer.now.containers c.args.words.now c.args.text.now line c.args.count c.args.content.now.items c.args.first
    c.loop-read.read c.loop-read.content.items h (c.loop-read.invariant line h)
    (λ fewer. absurd (omega (arith, fewer, c.loop-read-test.false)))
