use Rattle.std.proofs.Common.{[], ◌∷◌, ◌≡◌, ◌∙◌, List, ℕ, ap, drop, refl, subst, sym}
use Rattle.markdown_scanners_tree.specs.scanners.TextLines.{lines_of}
use Rattle.markdown_blocks.specs.blocks.Leaves.{BeginTable}
use Rattle.markdown_blocks.specs.containers.Containers.{rest_in}
use Rattle.markdown_blocks.proofs.blocks.BlockLemmas.{table_after}
use Rattle.markdown_blocks.proofs.kinds.KindLemmas.{not_given}
use Rattle.markdown_blocks.proofs.tables.TableLemmas.{no_begin}
use Rattle.markdown_blocks.proofs.blocks.scan_table.Goals as goal

pub returns-clause-found : goal.returns-clause-found
returns-clause-found c = λ t.
    let outer = c.args.outer.now in
    let text = c.args.text.now in
    let line = c.args.line.now in
    let next = c.in_ok-next.next.now in
    let rest = lines_of (drop c.in_ok-next.second.bytes text) in
    let two : lines_of text ≡ line ∷ next ∷ rest = t.parts ∙ ap (λ ls. line ∷ ls) c.in_ok-next.ensures.line.parts in
    let here : lines_of (drop c.nothing.result.bytes text) ≡ line ∷ next ∷ rest = sym (c.nothing.ensures text).parts ∙ two in
    let begins = ((rw c.new-next.ensures at c.begins_table.ensures) line rest here).0 c.if-not-begins_table.false in
    record {
      goes_on = (rw c.new.ensures at c.goes_on_with.ensures).0 c.if-not-goes_on_with.false;
      begins = subst (BeginTable outer) (sym two) begins;
      is_table = table_after text outer line (rest_in outer.containers line) c.args.first t c.in_ok-columns.columns next c.in_ok-next.second
          c.take_rows.result c.in_ok-next.ensures.line begins refl (rw c.new-next.ensures at c.in_ok-columns.ensures) c.take_rows.ensures;
    }

pub returns-then-not-begins_table-clause-none : goal.returns-then-not-begins_table-clause-none
returns-then-not-begins_table-clause-none c = λ t goes table.
    let outer = c.args.outer.now in
    let text = c.args.text.now in
    let line = c.args.line.now in
    let next = c.in_ok-next.next.now in
    let rest = lines_of (drop c.in_ok-next.second.bytes text) in
    let two : lines_of text ≡ line ∷ next ∷ rest = t.parts ∙ ap (λ ls. line ∷ ls) c.in_ok-next.ensures.line.parts in
    let here : lines_of (drop c.nothing.result.bytes text) ≡ line ∷ next ∷ rest = sym (c.nothing.ensures text).parts ∙ two in
    not_given c.if-not-begins_table.true ((rw c.new-next.ensures at c.begins_table.ensures) line rest here).1 (subst (BeginTable outer) two table)

pub returns-then-not-goes_on_with-clause-none : goal.returns-then-not-goes_on_with-clause-none
returns-then-not-goes_on_with-clause-none c = λ t goes table.
    not_given c.if-not-goes_on_with.true (rw c.new.ensures at c.goes_on_with.ensures).1 goes

pub returns-in_err-columns-clause-none : goal.returns-in_err-columns-clause-none
returns-in_err-columns-clause-none c = rw c.from_residual-in_err-columns.ensures (λ t goes table.
    let outer = c.args.outer.now in
    let text = c.args.text.now in
    let line = c.args.line.now in
    let next = c.in_ok-next.next.now in
    let rest = lines_of (drop c.in_ok-next.second.bytes text) in
    let two : lines_of text ≡ line ∷ next ∷ rest = t.parts ∙ ap (λ ls. line ∷ ls) c.in_ok-next.ensures.line.parts in
    no_begin outer line next rest (rw c.new-next.ensures at c.in_err-columns.ensures) (subst (BeginTable outer) two table))
