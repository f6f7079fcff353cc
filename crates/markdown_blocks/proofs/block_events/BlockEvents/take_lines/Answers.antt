use Rattle.std.proofs.Common.{◌+◌, ◌-◌, refl, sym, ap, ◌∙◌, length, drop, arith}
use Rattle.markdown_scanners_tree.specs.scanners.TextLines.{lines_of}
use Rattle.markdown_blocks.proofs.taken.TakenLemmas.{slice_after}
use Rattle.markdown_blocks.proofs.block_events.PartLemmas.{first_taken, front_is, lines_few}
use Rattle.markdown_blocks.proofs.block_events.BlockEvents.take_lines.Goals as goal

pub invariant_of-self : goal.invariant_of-self
invariant_of-self c =
    let lines = c.self.inside.lines.now in
    let rest = drop c.front_of-taken.result.bytes lines in
    let f = front_is lines c.args.count c.front_of-taken.result rest refl c.front_of-taken.ensures in
    let inv = c.self.invariant in
    record {
      before = omega (arith, c.self.inside.leaf.before, c.front_of-taken.result.few);
      ends = omega (arith, f.bytes_left, inv.3, inv.5);
      fits = omega (arith, c.self.inside.leaf.fits, f.lines_left, inv.2);
      few = omega (arith, f.lines_left, f.bytes_left, inv.2, inv.3, lines_few rest);
    }

pub returns-clause-leaf : goal.returns-clause-leaf
returns-clause-leaf c =
    let lines = c.self.inside.lines.now in
    let f = front_is lines c.args.count c.front_of-taken.result (drop c.front_of-taken.result.bytes lines) refl c.front_of-taken.ensures in
    let whole = c.self.inside.leaf in
    let placed = c.self.invariant.6
    ∙ ap (λ l. whole.start + (length l - length whole.text.now)) (sym (first_taken c.args.count (lines_of lines) c.requires)) in
    rw (← c.self.view_is, f.counted, f.bytes_are, placed) refl

pub returns-clause-rest : goal.returns-clause-rest
returns-clause-rest c =
    let lines = c.self.inside.lines.now in
    let rest = drop c.front_of-taken.result.bytes lines in
    let after = slice_after lines c.front_of-taken.result.bytes in
    let f = front_is lines c.args.count c.front_of-taken.result rest refl c.front_of-taken.ensures in
    let words = c.words.view_is ∙ (rw (after, f.lines_are) at c.first_rest-words.ensures.rest) in
    rw (← c.self.view_is, after, f.lines_are, words, f.counted, f.bytes_are) refl
