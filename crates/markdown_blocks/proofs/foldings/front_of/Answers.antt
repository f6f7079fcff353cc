use Rattle.std.proofs.Common.{◌∙◌, arith}
use Rattle.markdown_blocks.proofs.foldings.FrontLemmas.{are_digits, eight_digits}
use Rattle.markdown_blocks.proofs.foldings.front_of.Goals as goal

pub returns-clause-front : goal.returns-clause-front
returns-clause-front c = c.from_be_bytes.ensures
    ∙ eight_digits c.args.bytes.now _ _ _ _ _ _ _ _ c.byte_at.ensures c.byte_at-2.ensures c.byte_at-3.ensures c.byte_at-4.ensures
    c.byte_at-5.ensures c.byte_at-6.ensures c.byte_at-7.ensures c.byte_at-8.ensures

pub returns-clause-digits : goal.returns-clause-digits
returns-clause-digits c = are_digits c.args.bytes.now _ _ _ _ _ _ _ _ c.byte_at.ensures c.byte_at-2.ensures c.byte_at-3.ensures c.byte_at-4.ensures
    c.byte_at-5.ensures c.byte_at-6.ensures c.byte_at-7.ensures c.byte_at-8.ensures
    (omega arith) (omega arith) (omega arith) (omega arith) (omega arith) (omega arith) (omega arith) (omega arith)
