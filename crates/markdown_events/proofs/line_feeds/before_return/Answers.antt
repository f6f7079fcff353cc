use Rattle.std.proofs.Common.{sym}
use Rattle.markdown_scanners_tree.proofs.ScanLemmas.{prefix_len-found, prefix_len-not_found}
use Rattle.markdown_events.proofs.line_feeds.before_return.Goals as goal

pub returns-in-Some : goal.returns-in-Some
returns-in-Some c = sym (prefix_len-found 13 c.args.bytes.now c.in-Some.offset c.in-Some.ensures)

pub returns-in-None : goal.returns-in-None
returns-in-None c = sym (prefix_len-not_found 13 c.args.bytes.now c.in-None.ensures)
