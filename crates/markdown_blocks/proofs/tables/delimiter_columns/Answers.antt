use Rattle.markdown_blocks.specs.delimiter_rows.DelimiterRows.{IsDelimiter}
use Rattle.markdown_blocks.proofs.blocks.RestLemmas.{some_inside}
use Rattle.markdown_blocks.proofs.tables.delimiter_columns.Goals as goal

pub returns : goal.returns
returns c =
    some_inside c.args.line.now.outer c.args.line.now.bytes c.in_ok-rest.rest.now c.in_ok-rest.ensures.rest
    c.in_ok-rest.ensures.inside IsDelimiter c.columns_of.result c.columns_of.ensures
