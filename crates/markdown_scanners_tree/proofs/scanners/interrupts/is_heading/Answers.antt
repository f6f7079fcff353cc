use Rattle.markdown_scanners_tree.specs.scanners.Headings.{IsAtxHeading}
use Rattle.markdown_scanners_tree.proofs.SomeExactlyLemmas.{SomeExactly-given}
use Rattle.markdown_scanners_tree.proofs.scanners.interrupts.is_heading.Goals as goal

pub returns : goal.returns
returns c =
    SomeExactly-given (IsAtxHeading c.args.bytes.now) c.scan_atx_heading.result c.is_some.result c.is_some.ensures
    c.scan_atx_heading.ensures.found
