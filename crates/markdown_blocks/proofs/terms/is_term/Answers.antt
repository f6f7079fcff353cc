use Rattle.std.proofs.Common.{sym, ◌∙◌}
use Rattle.markdown_blocks.proofs.footnotes.FootnoteLemmas.{is_on}
use Rattle.markdown_blocks.proofs.terms.TermLemmas.{term_given}
use Rattle.markdown_blocks.proofs.terms.is_term.Goals as goal

pub returns-else-is_empty : goal.returns-else-is_empty
returns-else-is_empty c = λ whole some gathered.
    term_given c.args.extensions c.args.block.kind c.args.content.now whole (is_on _ c.if-not-extensions.false) c.in-Paragraph.is gathered
    c.definitions_len.result (sym c.is_empty.ensures ∙ c.if-is_empty.false) c.definitions_len.ensures.definitions c.definitions_len.ensures.within
