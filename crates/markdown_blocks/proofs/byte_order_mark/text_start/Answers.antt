use Rattle.std.proofs.Common.{sym, ap, ◌∙◌, length}
use Rattle.std.specs.Prelude.{if◌then◌else◌}
use Rattle.markdown_blocks.specs.byte_order_mark.ByteOrderMark.{byte_order_mark}
use Rattle.markdown_blocks.proofs.byte_order_mark.text_start.Goals as goal

pub returns-then-starts_with-clause-start : goal.returns-then-starts_with-clause-start
returns-then-starts_with-clause-start c =
    sym (ap (λ b. if b then length byte_order_mark else 0) (sym c.starts_with.ensures.value ∙ c.if-starts_with.true))

pub returns-clause-start : goal.returns-clause-start
returns-clause-start c =
    sym (ap (λ b. if b then length byte_order_mark else 0) (sym c.starts_with.ensures.value ∙ c.if-starts_with.false))
