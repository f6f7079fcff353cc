use Rattle.std.proofs.Common.{◌≡◌, ℕ, ◌+◌, ◌-◌, ◌<◌, ◌==◌, Bool, false, List, [], ◌∷◌, length, get_or, Some, None, sym, ap, ◌∙◌, subst, arith}
use Rattle.std.proofs.lemmas.Bool.{eqb-true, false≢true}
use Rattle.std.proofs.lemmas.List.{take_rest}
use Rattle.std.proofs.lemmas.Grind.{elements, common_steps}
use Rattle.markdown_scanners_tree.specs.scanners.titles.LinkTitle.{closing_of}
use Rattle.markdown_scanners_tree.specs.scanners.titles.private.TitleFrom.{IsTitleFrom}
use Rattle.markdown_scanners_tree.proofs.SomeExactlyLemmas.{SomeExactly-from_none}
use Rattle.markdown_scanners_tree.proofs.scanners.escapes.UnitLemmas.{drop_at_offset}
use Rattle.markdown_scanners_tree.proofs.scanners.links.LinkLemmas.{byte_after, cut_before, cut_after}
use Rattle.markdown_scanners_tree.proofs.scanners.titles.OneTitle.{title_found, no_title, no_opening, one_title}
use Rattle.markdown_scanners_tree.proofs.scanners.titles.TitleLemmas.{ascii_around}
use Rattle.markdown_scanners_tree.proofs.scanners.titles.scan_link_title.Goals as goal

pub returns-then-is_empty-clause-found : goal.returns-then-is_empty-clause-found
returns-then-is_empty-clause-found c = λ n is.
    absurd (omega (arith, ap length is.opens, eqb-true _ 0 (sym c.is_empty.ensures ∙ c.if-is_empty.true)))

pub returns-in_err-closing-clause-found : goal.returns-in_err-closing-clause-found
returns-in_err-closing-clause-found c = SomeExactly-from_none _ c.from_residual.ensures (λ n is.
    let none : None ≡ Some is.closing = c.in_err-closing.ensures
    ∙ (ap closing_of (no_opening c.args.bytes.now n is) ∙ is.matching) in
    cc)

pub returns-in_err-closing-clause-only : goal.returns-in_err-closing-clause-only
returns-in_err-closing-clause-only c = rw c.from_residual.ensures tt

-- a text that is not empty has a first byte
some_byte : (bytes : List ℕ) (empty : Bool) → empty ≡ (length bytes == 0) → empty ≡ false → 0 < length bytes
some_byte [] empty is filled = absurd (false≢true (sym filled ∙ is))
some_byte (b ∷ bytes) empty is filled = omega arith

pub returns-in_err-n-clause-found : goal.returns-in_err-n-clause-found
returns-in_err-n-clause-found c =
    let bytes = c.args.bytes.now in
    let opening = get_or bytes 0 0 in
    let closing = c.in_ok-closing.closing in
    let some = some_byte bytes c.is_empty.result c.is_empty.ensures c.if-is_empty.false in
    SomeExactly-from_none _ c.from_residual-in_err-n.ensures
    (no_title bytes opening closing (drop_at_offset bytes 0 some) (sym c.in_ok-closing.ensures)
    (λ n is. c.in_err-n.ensures.found n (subst (λ t. IsTitleFrom opening closing t n) (sym (take_rest bytes 1)) is)))

pub returns-in_err-n-clause-only : goal.returns-in_err-n-clause-only
returns-in_err-n-clause-only c = rw c.from_residual-in_err-n.ensures tt

pub returns-clause-found : goal.returns-clause-found
returns-clause-found c =
    let bytes = c.args.bytes.now in
    let opening = get_or bytes 0 0 in
    let closing = c.in_ok-closing.closing in
    let some = some_byte bytes c.is_empty.result c.is_empty.ensures c.if-is_empty.false in
    title_found bytes opening closing c.in_ok-n.n (drop_at_offset bytes 0 some) (sym c.in_ok-closing.ensures)
    (subst (λ t. IsTitleFrom opening closing t c.in_ok-n.n) (take_rest bytes 1) c.in_ok-n.ensures.found)

pub returns-clause-only : goal.returns-clause-only
returns-clause-only c = λ other is. one_title c.args.bytes.now other _ is (returns-clause-found c)

pub returns-clause-begins : goal.returns-clause-begins
returns-clause-begins c = λ utf8.
    let bytes = c.args.bytes.now in
    let around = ascii_around (get_or bytes 0 0) c.in_ok-closing.closing (sym c.in_ok-closing.ensures) in
    let some = some_byte bytes c.is_empty.result c.is_empty.ensures c.if-is_empty.false in
    cut_after bytes 0 1 (omega arith) utf8 some around.0

pub returns-clause-ends : goal.returns-clause-ends
returns-clause-ends c = λ utf8.
    let bytes = c.args.bytes.now in
    let n = c.in_ok-n.n in
    let close = byte_after bytes n _ c.in_ok-n.ensures.within c.in_ok-n.ensures.cut in
    let around = ascii_around (get_or bytes 0 0) c.in_ok-closing.closing (sym c.in_ok-closing.ensures) in
    cut_before bytes (1 + n) (n + 2 - 1) (omega arith) close.0 (omega (arith, close.1, around.1))

pub returns-clause-after : goal.returns-clause-after
returns-clause-after c = λ utf8.
    let bytes = c.args.bytes.now in
    let n = c.in_ok-n.n in
    let close = byte_after bytes n _ c.in_ok-n.ensures.within c.in_ok-n.ensures.cut in
    let around = ascii_around (get_or bytes 0 0) c.in_ok-closing.closing (sym c.in_ok-closing.ensures) in
    cut_after bytes (1 + n) (n + 2) (omega arith) utf8 close.0 (omega (arith, close.1, around.1))

pub returns-in_err-n-clause-begins : goal.returns-in_err-n-clause-begins
returns-in_err-n-clause-begins c = grind (arith, elements)

pub returns-in_err-n-clause-ends : goal.returns-in_err-n-clause-ends
returns-in_err-n-clause-ends c = grind (arith, common_steps)

pub returns-in_err-n-clause-after : goal.returns-in_err-n-clause-after
returns-in_err-n-clause-after c = grind (arith, common_steps)
