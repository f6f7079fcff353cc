use Rattle.std.proofs.Common.{◌∙◌, sym, arith}
use Rattle.markdown_inlines.proofs.code_content.CodeContentLemmas.{pair_len, other_len}
use Rattle.markdown_inlines.proofs.code_content.first_len.Goals as goal

pub returns-then-begins_with_pair-clause-count : goal.returns-then-begins_with_pair-clause-count
returns-then-begins_with_pair-clause-count c =
    omega (arith, pair_len c.args.bytes.now c.requires (sym c.begins_with_pair.ensures ∙ c.if-begins_with_pair.true))

pub returns-else-begins_with_pair-clause-count : goal.returns-else-begins_with_pair-clause-count
returns-else-begins_with_pair-clause-count c =
    omega (arith, other_len c.args.bytes.now c.requires (sym c.begins_with_pair.ensures ∙ c.if-begins_with_pair.false))
