use Rattle.std.proofs.Common.{refl, sym, ap, ◌∙◌}
use Rattle.markdown_blocks.specs.blocks.Pages.{root}
use Rattle.markdown_blocks.specs.containers.Containers.{Between}
use Rattle.page_blocks.specs.Printed.{Printed}
use Rattle.page_blocks.proofs.beginning.PagePrinting.new.Goals as goal

pub returns-clause-printed : goal.returns-clause-printed
returns-clause-printed c = λ page. (
  refl,
  (
    c.new.ensures.nothing,
    ap (λ (p : Printed). p.lists) c.new.ensures.at,
    c.new.ensures.walk ∙ ap root (sym (ap (λ (o : Between). o.extensions) c.new.ensures.walk)),
  ),
)
