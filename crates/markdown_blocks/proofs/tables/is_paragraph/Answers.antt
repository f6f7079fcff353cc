use Rattle.markdown_blocks.proofs.kinds.KindLemmas.{other_kind}
use Rattle.markdown_blocks.proofs.tables.is_paragraph.Goals as goal

pub returns-in_default : goal.returns-in_default
returns-in_default c = (λ t. cc, λ begins. absurd (other_kind c.kind_of.result _ c.in_default.not-Paragraph c.kind_of.ensures begins))
