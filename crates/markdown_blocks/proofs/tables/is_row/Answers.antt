use Rattle.std.proofs.Common.{refl}
use Rattle.markdown_blocks.specs.containers.Containers.{match_line}
use Rattle.markdown_blocks.proofs.blocks.RestLemmas.{begun_none}
use Rattle.markdown_blocks.proofs.tables.TableLemmas.{row_given}
use Rattle.markdown_blocks.proofs.tables.is_row.Goals as goal

pub returns : goal.returns
returns c =
    row_given c.args.line.now.outer c.args.line.now.bytes (match_line c.args.line.now.outer.containers c.args.line.now.bytes).state c.in-Some.rest.now
    c.is_paragraph.result
    refl c.in-Some.ensures.rest c.in-Some.ensures.inside
    (begun_none c.begins_container.result _ c.begins_container.ensures c.if-begins_container.false) c.is_paragraph.ensures
