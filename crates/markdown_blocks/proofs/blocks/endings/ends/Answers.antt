use Rattle.std.proofs.Common.{refl}
use Rattle.markdown_blocks.specs.blocks.Leaves.{ClosesFence}
use Rattle.markdown_blocks.proofs.blocks.RestLemmas.{ends_inside, leaves_inside, leaves_outside}
use Rattle.markdown_blocks.proofs.blocks.endings.ends.Goals as goal

pub returns-in-Paragraph : goal.returns-in-Paragraph
returns-in-Paragraph c =
    rw c.in-Paragraph.is (leaves_outside c.args.line.now.outer c.args.line.now.bytes c.in_default.ensures.none c.is_lazy.result _ refl c.is_lazy.ensures)

pub returns-in-Paragraph-ending : goal.returns-in-Paragraph-ending
returns-in-Paragraph-ending c =
    rw c.in-Paragraph-ending.is (leaves_inside c.args.line.now.outer c.args.line.now.bytes c.in-Some.rest.now c.in-Some.ensures.rest
    c.in-Some.ensures.inside _ (rw (c.extensions.ensures, c.outer.ensures) at c.ends_paragraph.ensures))

pub returns-in-Fence : goal.returns-in-Fence
returns-in-Fence c =
    rw c.in-Fence.is (ends_inside c.args.line.now.outer c.args.line.now.bytes c.in-Some.rest.now c.in-Some.ensures.rest c.in-Some.ensures.inside
    (ClosesFence c.in-Fence.count c.in-Fence.byte) _ c.closes_fence.ensures)
