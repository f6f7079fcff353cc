use Rattle.std.proofs.Common.{sym, take, drop, length, ◌-◌, ◌∙◌}
use Rattle.markdown_scanners_tree.specs.Bytes.{IsBlankLine}
use Rattle.markdown_scanners_tree.specs.scanners.Metadata.{IsClosingMetadataBlock}
use Rattle.markdown_scanners_tree.proofs.SomeExactlyLemmas.{SomeExactly-some, SomeExactly-none}
use Rattle.markdown_scanners_tree.proofs.scanners.metadata.MetadataLemmas.{block-blank, block-closed, block-later, block-scanned}
use Rattle.markdown_scanners_tree.proofs.scanners.metadata.is_block_of.Goals as goal

pub returns-in_default-clause-found : goal.returns-in_default-clause-found
returns-in_default-clause-found c =
    (λ found. cc, λ block. absurd (c.in_default.ensures.none block.body block.opening))

pub returns-then-is_some-clause-found : goal.returns-then-is_some-clause-found
returns-then-is_some-clause-found c =
    let n = c.in-Some.opening in
    let line = SomeExactly-some (IsBlankLine (take (length c.args.bytes.now - n) (drop n c.args.bytes.now)))
    c.scan_blank_line.result (sym c.is_some.ensures ∙ c.if-is_some.true) c.scan_blank_line.ensures.found in (
      λ found. cc,
      λ block. absurd (block-blank c.args.byte c.args.bytes.now n c.in-Some.ensures.found line.0 line.1 block),
    )

pub returns-then-is_some-2-clause-found : goal.returns-then-is_some-2-clause-found
returns-then-is_some-2-clause-found c =
    let n = c.in-Some.opening in
    let body = take (length c.args.bytes.now - n) (drop n c.args.bytes.now) in
    let close = SomeExactly-some (IsClosingMetadataBlock body c.args.byte) c.scan_closing_metadata_block.result
    (sym c.is_some-2.ensures ∙ c.if-is_some-2.true) c.scan_closing_metadata_block.ensures.found in (
      λ found. cc,
      λ block. absurd (block-closed c.args.byte c.args.bytes.now n c.in-Some.ensures.found close.0 close.1 block),
    )

pub returns-clause-found : goal.returns-clause-found
returns-clause-found c =
    let n = c.in-Some.opening in
    let opening = c.in-Some.ensures.found in
    let body = take (length c.args.bytes.now - n) (drop n c.args.bytes.now) in
    let not_blank = SomeExactly-none (IsBlankLine body) c.scan_blank_line.result
    (sym c.is_some.ensures ∙ c.if-is_some.false) c.scan_blank_line.ensures.found in
    let not_closed = SomeExactly-none (IsClosingMetadataBlock body c.args.byte) c.scan_closing_metadata_block.result
    (sym c.is_some-2.ensures ∙ c.if-is_some-2.false) c.scan_closing_metadata_block.ensures.found in
    let later = c.has_later_close.ensures in (
      λ found. block-scanned c.args.byte c.args.bytes.now n opening not_blank not_closed (later.0 found),
      λ block. later.1 (block-later c.args.byte c.args.bytes.now n opening block),
    )
