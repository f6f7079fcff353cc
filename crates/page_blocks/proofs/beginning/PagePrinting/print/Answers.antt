use Rattle.std.proofs.Common.{true, ◌≤◌, length, refl, arith}
use Rattle.markdown_blocks.proofs.taken.TakenLemmas.{slice_after}
use Rattle.page_blocks.proofs.BeginningLemmas.{begins-on}
use Rattle.page_blocks.proofs.beginning.PagePrinting.print.Goals.{else-not-has_ended-via-then-not-has_ended+else-bytes-lt3}
use Rattle.page_blocks.proofs.beginning.PagePrinting.print.Goals.{else-not-has_ended-via-else-not-has_ended}
use Rattle.page_blocks.proofs.beginning.PagePrinting.print.Goals as goal

pub returns-clause-printed : goal.returns-clause-printed
returns-clause-printed c = λ other more.
    let bytes = c.args.bytes.now in
    let start = c.text_start-start.result in
    let some : 3 ≤ length bytes = elim c.else-not-has_ended.branch [
      | else-not-has_ended-via-then-not-has_ended+else-bytes-lt3 w ↦ omega (arith, w.if-bytes-lt3.false)
      | else-not-has_ended-via-else-not-has_ended w ↦ absurd (other w.if-not-has_ended.false)
    ] in
    begins-on c.args.self.now c.begin.new.self bytes start c.text_start-start.ensures.start c.if-self.false c.begin.ensures.begun
    (record { has_begun = true; text = c.print-2.new.self }) more c.in_ok-count.count refl some
    (rw (slice_after bytes start) at (c.in_ok-count.ensures.printed other more))
