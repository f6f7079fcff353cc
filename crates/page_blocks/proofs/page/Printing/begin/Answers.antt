use Rattle.std.proofs.Common.{ℕ, ap, ◌∙◌}
use Rattle.markdown_blocks.specs.lists.Tracked.{Tracked}
use Rattle.page_blocks.specs.Printed.{Printed}
use Rattle.page_blocks.proofs.PageLemmas.{printing-first}
use Rattle.page_blocks.proofs.page.Printing.begin.Goals as goal

abbrev front : ℕ → Tracked → Printed
front start lists = record { at = record { lines = 0; bytes = start }; lists = lists }

pub returns-clause-begun : goal.returns-clause-begun
returns-clause-begun c = λ page written start (empty, lists, walk).
    printing-first c.args.self.now.printer.form page _ c.args.self.now.walk _
    (ap (λ n. front n c.args.self.now.printer.lists) start ∙ ap (front _) lists) walk empty
