use Rattle.markdown_html.proofs.EscapeLaws.{text_of_escaped}
use Rattle.markdown_html.proofs.escapes.push_escaped.Goals as goal

pub returns-in_err-rest-clause-reads : goal.returns-in_err-rest-clause-reads
returns-in_err-rest-clause-reads c = text_of_escaped c.args.text.now

pub returns-clause-reads : goal.returns-clause-reads
returns-clause-reads c = text_of_escaped c.args.text.now
