use Rattle.std.proofs.Common.{◌≡◌, ◌++◌, length, drop, refl, sym, ap, ◌∙◌, arith, append-nil}
use Rattle.std.proofs.lemmas.List.{drop_all}
use Rattle.markdown_scanners_tree.specs.scanners.TextLines.{lines_of}
use Rattle.markdown_blocks.proofs.taken.TakenLemmas.{lines_bytes}
use Rattle.markdown_blocks.proofs.block_events.BlockEvents.whole.Goals as goal

pub returns : goal.returns
returns c =
    let inv = c.self.invariant in
    let text = c.self.inside.lines.now in
    let all : lines_of text ≡ lines_of text ++ lines_of (drop (length text) text) =
    sym (ap (λ t. lines_of text ++ lines_of t) (drop_all (length text) text (omega arith)) ∙ append-nil (lines_of text)) in
    let bytes = inv.3 ∙ lines_bytes text (length text) (lines_of text) (omega arith) all in
    rw (← c.self.view_is, ← inv.2, ← bytes, ← inv.6) refl
