use Rattle.std.proofs.Common.{◌∙◌, sym}
use Rattle.markdown_inlines.proofs.code_content.CodeContentLemmas.{back_pair, back_one}
use Rattle.markdown_inlines.proofs.code_content.last_space_len.Goals as goal

pub returns-then-ends_with_pair-clause-front : goal.returns-then-ends_with_pair-clause-front
returns-then-ends_with_pair-clause-front c =
    back_pair c.args.bytes.now (sym c.ends_with_pair.ensures ∙ c.if-ends_with_pair.true)

pub returns-else-ends_with_pair-clause-front : goal.returns-else-ends_with_pair-clause-front
returns-else-ends_with_pair-clause-front c =
    back_one c.args.bytes.now c.requires (sym c.ends_with_pair.ensures ∙ c.if-ends_with_pair.false)
