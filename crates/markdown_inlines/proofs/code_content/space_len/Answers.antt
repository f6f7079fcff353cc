use Rattle.std.proofs.Common.{◌∙◌, sym}
use Rattle.markdown_inlines.proofs.code_content.CodeContentLemmas.{front_pair, front_one, cut_pair, cut_one}
use Rattle.markdown_inlines.proofs.code_content.space_len.Goals as goal

pub returns-then-begins_with_pair-clause-rest : goal.returns-then-begins_with_pair-clause-rest
returns-then-begins_with_pair-clause-rest c =
    front_pair c.args.bytes.now (sym c.begins_with_pair.ensures ∙ c.if-begins_with_pair.true)

pub returns-then-begins_with_pair-clause-cut : goal.returns-then-begins_with_pair-clause-cut
returns-then-begins_with_pair-clause-cut c =
    cut_pair c.args.bytes.now (sym c.begins_with_pair.ensures ∙ c.if-begins_with_pair.true)

pub returns-else-begins_with_pair-clause-rest : goal.returns-else-begins_with_pair-clause-rest
returns-else-begins_with_pair-clause-rest c =
    front_one c.args.bytes.now c.requires (sym c.begins_with_pair.ensures ∙ c.if-begins_with_pair.false)

pub returns-else-begins_with_pair-clause-cut : goal.returns-else-begins_with_pair-clause-cut
returns-else-begins_with_pair-clause-cut c = cut_one c.args.bytes.now c.requires
