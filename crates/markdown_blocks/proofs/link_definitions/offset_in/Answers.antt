use Rattle.std.proofs.Common.{length, take, drop, ◌-◌, ◌∙◌, ap, sym, arith}
use Rattle.markdown_scanners_tree.specs.scanners.TextLines.{lines_of}
use Rattle.markdown_blocks.specs.link_definitions.Lent.{from_byte}
use Rattle.markdown_blocks.proofs.link_definitions.LentLemmas.{from_end, from_later, from_line, some_left}
use Rattle.markdown_blocks.proofs.taken.TakenLemmas.{slice_after}
use Rattle.markdown_blocks.proofs.link_definitions.offset_in.Goals as goal

pub returns-then-further-length : goal.returns-then-further-length
returns-then-further-length c =
    let left = c.loop-left.left.now in
    let rest = c.loop-left.rest.now in
    let n = c.scan_line-length in
    let m = c.scan_line-line in
    let some = some_left left (sym c.is_empty.ensures ∙ c.loop-left-test.true) in
    slice_after rest c.saturating_sub.result ∙ ap (λ k. drop k rest) c.saturating_sub.ensures
    ∙ sym (from_line left rest n.result m.result some n.ensures.line n.ensures.within m.ensures.line m.ensures.within c.loop-left.further
    c.if-further-length.true)
    ∙ c.loop-left.invariant

pub loop-left-preserved : goal.loop-left-preserved
loop-left-preserved c =
    let left = c.loop-left.left.now in
    let rest = c.loop-left.rest.now in
    let n = c.scan_line-length in
    let m = c.scan_line-line in
    let further = c.loop-left.further in
    let some = some_left left (sym c.is_empty.ensures ∙ c.loop-left-test.true) in
    ap (λ l. from_byte (further - n.result) (lines_of l) (lines_of (take (length rest - m.result) (drop m.result rest))))
    (slice_after left n.result)
    ∙ ap (λ l. from_byte (further - n.result) (lines_of (drop n.result left)) (lines_of l)) (slice_after rest m.result)
    ∙ from_later left rest n.result m.result some n.ensures.line n.ensures.within m.ensures.line m.ensures.within further
    (omega (arith, c.if-further-length.false))
    ∙ c.loop-left.invariant

pub returns : goal.returns
returns c =
    sym (from_end c.loop-left.further c.loop-left.left.now c.loop-left.rest.now (sym c.is_empty.ensures ∙ c.loop-left-test.false))
    ∙ c.loop-left.invariant
