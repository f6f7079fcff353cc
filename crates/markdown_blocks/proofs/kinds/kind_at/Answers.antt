use Rattle.markdown_blocks.proofs.kinds.KindLemmas.{not_given}
use Rattle.markdown_blocks.proofs.kinds.kind_at.Goals as goal

pub returns : goal.returns
returns c = (
  not_given c.if-is_break.false c.is_break.ensures.1,
  c.in_default.ensures,
  c.in_default-scan_code_fence.ensures.found,
  c.in_default-html_kind.ensures,
)
