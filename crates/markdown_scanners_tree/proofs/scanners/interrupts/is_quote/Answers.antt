use Rattle.markdown_scanners_tree.specs.scanners.Lines.{IsBlockQuoteStart}
use Rattle.markdown_scanners_tree.proofs.SomeExactlyLemmas.{SomeExactly-given}
use Rattle.markdown_scanners_tree.proofs.scanners.interrupts.is_quote.Goals as goal

pub returns : goal.returns
returns c =
    SomeExactly-given (IsBlockQuoteStart c.args.bytes.now) c.scan_blockquote_start.result c.is_some.result
    c.is_some.ensures c.scan_blockquote_start.ensures.found
