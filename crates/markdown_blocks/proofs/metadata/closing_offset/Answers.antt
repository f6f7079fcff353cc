use Rattle.std.proofs.Common.{◌+◌, ◌-◌, length, take, drop, sym, ap, ◌∙◌, subst, arith, inl, inr}
use Rattle.std.proofs.lemmas.List.{length-drop}
use Rattle.markdown_scanners_tree.proofs.PrefixLemmas.{from_offset}
use Rattle.markdown_scanners_tree.proofs.SomeExactlyLemmas.{SomeExactly-some, SomeExactly-none}
use Rattle.markdown_scanners_tree.specs.scanners.Lines.{next_line}
use Rattle.markdown_scanners_tree.specs.scanners.Metadata.{IsClosingMetadataBlock}
use Rattle.markdown_blocks.proofs.metadata.MetadataLemmas.{closes_next, is_below, not_closed_at_end, open_below, open_through}
use Rattle.markdown_blocks.proofs.metadata.closing_offset.Goals as goal

pub returns-then-is_some-clause-found : goal.returns-then-is_some-clause-found
returns-then-is_some-clause-found c =
    let page = c.args.page.now in
    let offset = c.loop-offset.offset in
    let next = offset + c.scan_nextline-offset.result in
    let rest = take (length page - next) (drop next page) in
    let is = ap (λ n. offset + n) (c.scan_nextline-offset.ensures.next ∙ ap next_line (from_offset page offset)) in
    let close = SomeExactly-some (IsClosingMetadataBlock rest c.args.byte) c.scan_closing_metadata_block.result
    (sym c.is_some.ensures ∙ c.if-is_some.true) c.scan_closing_metadata_block.ensures.found in (
      omega (arith, c.loop-offset.invariant.0, is, length-drop offset page, c.loop-offset-test.true),
      closes_next page c.args.byte offset next c.loop-offset-test.true is close.0
          (subst (λ bs. IsClosingMetadataBlock bs c.args.byte close.0) (from_offset page next) close.1),
    )

pub returns-then-is_some-clause-first : goal.returns-then-is_some-clause-first
returns-then-is_some-clause-first c =
    let page = c.args.page.now in
    let offset = c.loop-offset.offset in
    let next = offset + c.scan_nextline-offset.result in
    let is = ap (λ n. offset + n) (c.scan_nextline-offset.ensures.next ∙ ap next_line (from_offset page offset)) in
    open_below page c.args.byte offset next c.loop-offset-test.true is c.args.start c.loop-offset.invariant.2

pub loop-offset-preserved : goal.loop-offset-preserved
loop-offset-preserved c =
    let page = c.args.page.now in
    let offset = c.loop-offset.offset in
    let next = offset + c.scan_nextline-offset.result in
    let rest = take (length page - next) (drop next page) in
    let is = ap (λ n. offset + n) (c.scan_nextline-offset.ensures.next ∙ ap next_line (from_offset page offset)) in
    let none = SomeExactly-none (IsClosingMetadataBlock rest c.args.byte) c.scan_closing_metadata_block.result
    (sym c.is_some.ensures ∙ c.if-is_some.false) c.scan_closing_metadata_block.ensures.found in (
      omega (arith, c.loop-offset.invariant.0),
      omega (arith, is, length-drop offset page, c.loop-offset-test.true),
      open_through page c.args.byte offset next c.loop-offset-test.true is c.args.start c.loop-offset.invariant.2
          (λ n close. none n (subst (λ bs. IsClosingMetadataBlock bs c.args.byte n) (sym (from_offset page next)) close)),
    )

pub returns-clause-none : goal.returns-clause-none
returns-clause-none c = λ k after close. elim (is_below c.loop-offset.offset k) [
  | inl further ↦ not_closed_at_end c.args.page.now c.args.byte k (omega (arith, c.loop-offset-test.false, further)) close
  | inr near ↦ c.loop-offset.invariant.2 k after near close
]
