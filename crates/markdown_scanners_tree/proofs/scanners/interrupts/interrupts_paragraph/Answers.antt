use Rattle.std.proofs.Common.{◌↔◌, IsTrue, subst}
use Rattle.markdown_scanners_tree.specs.scanners.Interrupts.{Interrupts}
use Rattle.markdown_scanners_tree.proofs.scanners.interrupts.interrupts_paragraph.Goals as goal

pub returns : goal.returns
returns c = subst (λ bytes. IsTrue c.interrupts.result ↔ Interrupts bytes) c.without_indent.ensures c.interrupts.ensures
