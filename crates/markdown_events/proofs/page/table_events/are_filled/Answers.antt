use Rattle.std.proofs.Common.{sym}
use Rattle.markdown_events.proofs.page.table_events.FilledLemmas.{all_filled}
use Rattle.markdown_events.proofs.page.table_events.are_filled.Goals as goal

pub returns-then-has_few_lines : goal.returns-then-has_few_lines
returns-then-has_few_lines c =
    sym (all_filled c.args.cells c.args.columns c.args.here.kept c.args.here.containers.now _ (c.has_few_lines.ensures c.if-has_few_lines.true))
