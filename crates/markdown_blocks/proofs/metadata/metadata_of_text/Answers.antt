use Rattle.std.proofs.Common.{◌<◌, sym, subst}
use Rattle.markdown_blocks.proofs.metadata.MetadataLemmas.{block_closes}
use Rattle.markdown_blocks.proofs.metadata.metadata_of_text.Goals as goal

-- a block that stands at the front is closed
pub returns-in_err-end-clause-found : goal.returns-in_err-end-clause-found
returns-in_err-end-clause-found c =
    let block = block_closes c.args.text.now c.args.yaml_style_enabled c.args.pluses_style_enabled c.in_ok-byte.byte c.in_ok-byte.ensures.found in
    absurd (c.in_err-end.ensures.none block.0 (subst (λ n. n < block.0) (sym c.scan_nextline-start.ensures.next) block.1) block.2)

pub returns-in_err-end-clause-none : goal.returns-in_err-end-clause-none
returns-in_err-end-clause-none c =
    let block = block_closes c.args.text.now c.args.yaml_style_enabled c.args.pluses_style_enabled c.in_ok-byte.byte c.in_ok-byte.ensures.found in
    absurd (c.in_err-end.ensures.none block.0 (subst (λ n. n < block.0) (sym c.scan_nextline-start.ensures.next) block.1) block.2)
