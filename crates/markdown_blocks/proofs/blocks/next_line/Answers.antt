use Rattle.std.proofs.Common.{Some}
use Rattle.markdown_blocks.proofs.kinds.KindLemmas.{not_given}
use Rattle.markdown_blocks.proofs.blocks.ParagraphLemmas.{goes_on, text_goes_on, leaves_so, interrupts_so, underlines_so, defines_so}
use Rattle.markdown_blocks.proofs.blocks.next_line.Goals as goal

pub returns-then-ends : goal.returns-then-ends
returns-then-ends c = λ begin later h all. (
  leaves_so c.args.line.now.outer c.args.words.now later c.args.line.now.bytes c.in_default.ensures.none (c.ends.ensures.0 c.if-ends.true),
  λ level under. c.in_default.ensures.none (Some level) under.0,
)

pub returns-in_default : goal.returns-in_default
returns-in_default c = λ begin later h all.
    goes_on c.args.line.now.outer c.args.words.now later c.args.line.now.bytes c.in_default.ensures.none (not_given c.if-ends.false c.ends.ensures.1)

pub returns-then-end : goal.returns-then-end
returns-then-end c = λ begin later h all. (
  interrupts_so c.args.line.now.outer c.args.words.now later c.args.line.now.bytes c.in-Some.end c.in-Some.ensures.found c.if-end.true,
  λ level under. not_given c.if-not-branch.true (rw c.outer.ensures at (c.in_ok-has_text.ensures begin later h all)).1 under.1,
)

pub returns-then-not-branch : goal.returns-then-not-branch
returns-then-not-branch c = λ begin later h all.
    text_goes_on c.args.line.now.outer c.args.words.now later c.args.line.now.bytes c.in-Some.end c.in-Some.ensures.found c.if-end.false
    (not_given c.if-not-branch.true (rw c.outer.ensures at (c.in_ok-has_text.ensures begin later h all)).1)

pub returns-in-Some-level : goal.returns-in-Some-level
returns-in-Some-level c = λ begin later h all.
    underlines_so c.args.line.now.outer c.args.words.now later c.args.line.now.bytes c.in-Some.end c.in-Some.ensures.found c.in-Some-level.level
    c.in-Some-level.is ((rw c.outer.ensures at (c.in_ok-has_text.ensures begin later h all)).0 c.if-not-branch.false)

pub returns-in-None : goal.returns-in-None
returns-in-None c = λ begin later h all.
    defines_so c.args.line.now.outer c.args.words.now later c.args.line.now.bytes c.in-Some.end c.in-Some.ensures.found c.in-None.is
    ((rw c.outer.ensures at (c.in_ok-has_text.ensures begin later h all)).0 c.if-not-branch.false)
