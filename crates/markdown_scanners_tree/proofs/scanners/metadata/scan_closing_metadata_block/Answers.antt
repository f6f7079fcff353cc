use Rattle.markdown_scanners_tree.specs.scanners.Metadata.{IsLineOfThree, IsClosingMetadataBlock}
use Rattle.markdown_scanners_tree.proofs.SomeExactlyLemmas.{SomeExactly-map, IsOnly-found}
use Rattle.markdown_scanners_tree.proofs.scanners.metadata.MetadataLemmas.{closing-dots, not_closing, not_closing-dots}
use Rattle.markdown_scanners_tree.proofs.scanners.metadata.OneMetadata.{one_line_of_three, one_closing_metadata}
use Rattle.markdown_scanners_tree.proofs.scanners.metadata.scan_closing_metadata_block.Goals as goal

pub returns-in-None-clause-found : goal.returns-in-None-clause-found
returns-in-None-clause-found c =
    SomeExactly-map (IsLineOfThree 46 c.args.bytes.now)
    (IsClosingMetadataBlock c.args.bytes.now c.args.fence_char) c.scan_line_of_three-in-None.result
    (closing-dots c.args.bytes.now c.args.fence_char c.if-fence_char-eq45.true) (not_closing-dots c.args.bytes.now
    c.args.fence_char c.in-None.ensures.found) c.scan_line_of_three-in-None.ensures.found

pub returns-in-None-2-clause-found : goal.returns-in-None-2-clause-found
returns-in-None-2-clause-found c =
    not_closing c.args.bytes.now c.args.fence_char c.if-fence_char-eq45.false c.in-None.ensures.found

pub returns-in-Some-clause-only : goal.returns-in-Some-clause-only
returns-in-Some-clause-only c =
    λ other is. one_line_of_three c.args.bytes.now is.byte other c.args.fence_char _ is.line c.in-Some.ensures.found

pub returns-in-None-clause-only : goal.returns-in-None-clause-only
returns-in-None-clause-only c =
    IsOnly-found (IsClosingMetadataBlock c.args.bytes.now c.args.fence_char)
    (one_closing_metadata c.args.bytes.now c.args.fence_char) c.scan_line_of_three-in-None.result
    (returns-in-None-clause-found c)
