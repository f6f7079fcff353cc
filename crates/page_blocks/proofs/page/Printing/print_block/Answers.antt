use Rattle.std.proofs.Common.{[], ◌++◌, length, string_bytes, refl, sym, ap, ◌∙◌, arith, append_assoc}
use Rattle.markdown_blocks.specs.containers.Containers.{Between}
use Rattle.markdown_blocks.specs.events.Given.{block_left}
use Rattle.page_blocks.specs.Printers.{HasPrinted, printed_of}
use Rattle.page_blocks.proofs.PageLemmas.{step_size, printing-next}
use Rattle.page_blocks.proofs.page.Printing.print_block.Goals as goal

-- the events of the step's block are printed
printed : (c : goal.In_ok-print_block) → HasPrinted c.args.self.now.printer c.next_block.new.self.containers c.next_block.new.content.items
    (block_left c.in-Some.step c.args.self.now.printer.at (length c.args.self.now.walk.containers)) c.print_block.new.self
printed c =
    rw (c.containers.ensures.containers, c.deref.ensures.value, c.new-events.ensures, c.containers-depth.ensures.containers)
    at c.in_ok-print_block.ensures.lines

pub returns-clause-printed : goal.returns-clause-printed
returns-clause-printed c = λ more none page written goes.
    let h = printed c in
    rw c.in_ok-print_block.ensures.form
    (printing-next c.args.self.now.printer.form c.args.self.now.walk c.next_block.new.self c.args.self.now.printer.at c.args.self.now.printer.lists
    c.in-Some.step c.args.lines.now more ((rw c.in-Some.is at c.in_ok-step.ensures.step) more none) c.next_block.new.content.items h.events h.shown
    (rw c.in-Some.is at c.in_ok-step.ensures.content) h.given h.are_shown page (written ++ string_bytes c.args.self.now.printer.text) _
    (printed_of c.print_block.new.self) h.so_far
    (ap (λ t. written ++ t) h.lines ∙ sym (append_assoc written (string_bytes c.args.self.now.printer.text) _)) goes)

pub returns-clause-lines : goal.returns-clause-lines
returns-clause-lines c =
    let h = printed c in
    let size = step_size c.args.self.now.printer.form c.args.self.now.walk c.next_block.new.self c.args.self.now.printer.at c.args.self.now.printer.lists
    c.in-Some.step c.args.lines.now [] ((rw c.in-Some.is at c.in_ok-step.ensures.step) [] (λ ended. refl)) c.next_block.new.content.items h.events h.shown
    (rw c.in-Some.is at c.in_ok-step.ensures.content) h.given h.are_shown (printed_of c.print_block.new.self) h.so_far in
    omega (arith, size.0, c.in-Some.step.block.taken.few)

pub returns-clause-bytes : goal.returns-clause-bytes
returns-clause-bytes c =
    let h = printed c in
    let size = step_size c.args.self.now.printer.form c.args.self.now.walk c.next_block.new.self c.args.self.now.printer.at c.args.self.now.printer.lists
    c.in-Some.step c.args.lines.now [] ((rw c.in-Some.is at c.in_ok-step.ensures.step) [] (λ ended. refl)) c.next_block.new.content.items h.events h.shown
    (rw c.in-Some.is at c.in_ok-step.ensures.content) h.given h.are_shown (printed_of c.print_block.new.self) h.so_far in
    size.1

pub returns-clause-asked : goal.returns-clause-asked
returns-clause-asked c =
    ap (λ (o : Between). o.extensions) ((rw c.in-Some.is at c.in_ok-step.ensures.step) [] (λ ended. refl)).open_now
