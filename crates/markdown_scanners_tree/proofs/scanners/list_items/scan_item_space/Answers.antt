use Rattle.std.proofs.Common.{ℕ, sym, subst, ◌∙◌, arith}
use Rattle.markdown_scanners_tree.specs.Bytes.{IsBlankLine}
use Rattle.markdown_scanners_tree.specs.scanners.Indent.{IsIndent}
use Rattle.markdown_scanners_tree.specs.scanners.list_items.ListItem.{blank, indented_code, text}
use Rattle.markdown_scanners_tree.proofs.SomeExactlyLemmas.{SomeExactly-some, SomeExactly-none}
use Rattle.markdown_scanners_tree.proofs.scanners.list_items.ListItemLemmas.{item_space-none}
use Rattle.markdown_scanners_tree.proofs.scanners.list_items.scan_item_space.Goals as goal

pub returns-then-is_some-clause-found : goal.returns-then-is_some-clause-found
returns-then-is_some-clause-found c =
    let line = SomeExactly-some (IsBlankLine c.args.rest.now) c.scan_blank_line.result (sym c.is_some.ensures
    ∙ c.if-is_some.true) c.scan_blank_line.ensures.found in
    blank line.0 line.1

pub returns-then-space-eq0-clause-found : goal.returns-then-space-eq0-clause-found
returns-then-space-eq0-clause-found c r =
    let none = SomeExactly-none (IsBlankLine c.args.rest.now) c.scan_blank_line.result (sym c.is_some.ensures
    ∙ c.if-is_some.false) c.scan_blank_line.ensures.found in
    item_space-none c.args.rest.now c.calc_indent-offset.result.0 none (subst (λ (space : ℕ). IsIndent c.args.rest.now
    5 c.calc_indent-offset.result.0 space) c.if-space-eq0.true c.calc_indent-offset.ensures.indent) r.0 r.1

pub returns-then-space-gt4-clause-found : goal.returns-then-space-gt4-clause-found
returns-then-space-gt4-clause-found c =
    let none = SomeExactly-none (IsBlankLine c.args.rest.now) c.scan_blank_line.result (sym c.is_some.ensures
    ∙ c.if-is_some.false) c.scan_blank_line.ensures.found in
    indented_code c.calc_indent-offset.result.0 c.calc_indent-offset.result.1 none
    c.calc_indent-offset.ensures.indent c.if-space-gt4.true

pub returns-else-space-gt4-clause-found : goal.returns-else-space-gt4-clause-found
returns-else-space-gt4-clause-found c =
    let none = SomeExactly-none (IsBlankLine c.args.rest.now) c.scan_blank_line.result (sym c.is_some.ensures
    ∙ c.if-is_some.false) c.scan_blank_line.ensures.found in
    text c.calc_indent-offset.result.0 c.calc_indent-offset.result.1 none c.calc_indent-offset.ensures.indent
    (omega arith) c.if-space-gt4.false
