use Rattle.std.proofs.Common.{ℕ, arith}
use Rattle.std.proofs.lemmas.Grind.{elements, common_steps}
use Rattle.markdown_scanners_tree.specs.scanners.Fences.{IsCodeFence}
use Rattle.markdown_scanners_tree.proofs.SomeExactlyLemmas.{SomeExactly-given}
use Rattle.markdown_scanners_tree.proofs.scanners.interrupts.is_fence.Goals as goal

pub returns-in-96 : goal.returns-in-96
returns-in-96 c =
    rw (← c.line_head.ensures.head) (SomeExactly-given (λ (r : ℕ × ℕ). IsCodeFence c.line_head.result.now r.0 r.1)
    c.scan_code_fence.result c.is_some.result c.is_some.ensures c.scan_code_fence.ensures.found)

pub returns-in_default : goal.returns-in_default
returns-in_default c = grind (arith, elements)

pub returns-in_default-2 : goal.returns-in_default-2
returns-in_default-2 c = grind (arith, common_steps)
