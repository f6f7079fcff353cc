use Rattle.std.proofs.Common.{◌<◌, ◌+◌, ◌-◌, length, take, drop, sym, ◌∙◌, arith, refl}
use Rattle.markdown_scanners_tree.specs.scanners.Metadata.{IsClosingMetadataBlock}
use Rattle.markdown_scanners_tree.proofs.SomeExactlyLemmas.{SomeExactly-some, SomeExactly-none}
use Rattle.markdown_scanners_tree.proofs.scanners.metadata.MetadataLemmas.{line-within, line-closed, line-open, no_line}
use Rattle.markdown_scanners_tree.proofs.scanners.metadata.has_later_close.Goals as goal

pub returns-then-is_some : goal.returns-then-is_some
returns-then-is_some c =
    let next = c.loop-line.i + (c.in-Some.line + 1) in
    let rest = take (length c.args.body.now - next) (drop next c.args.body.now) in
    let close = SomeExactly-some (IsClosingMetadataBlock rest c.args.byte) c.scan_closing_metadata_block.result
    (sym c.is_some.ensures ∙ c.if-is_some.true) c.scan_closing_metadata_block.ensures.found in (
      λ _. line-closed c.args.byte c.args.body.now c.loop-line.i c.in-Some.line c.in-Some.ensures close.0 close.1,
      λ _. refl,
    )

pub loop-line-preserved : goal.loop-line-preserved
loop-line-preserved c =
    let next = c.loop-line.i + (c.in-Some.line + 1) in
    let inside : c.loop-line.i + c.in-Some.line < length c.args.body.now =
    line-within c.args.byte c.args.body.now c.loop-line.i c.in-Some.line c.in-Some.ensures in
    let rest = take (length c.args.body.now - next) (drop next c.args.body.now) in
    let none = SomeExactly-none (IsClosingMetadataBlock rest c.args.byte) c.scan_closing_metadata_block.result
    (sym c.is_some.ensures ∙ c.if-is_some.false) c.scan_closing_metadata_block.ensures.found in (
      omega (arith, inside),
      λ close. line-open c.args.byte c.args.body.now c.loop-line.i c.in-Some.line
          c.in-Some.ensures none (c.loop-line.invariant.1 close),
    )

pub returns : goal.returns
returns c = (
  λ found. cc,
  λ close. absurd (no_line c.args.byte c.args.body.now c.loop-line.i c.in_default.ensures
      (c.loop-line.invariant.1 close)),
)
