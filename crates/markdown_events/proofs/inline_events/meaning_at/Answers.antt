use Rattle.std.proofs.Common.{ℕ, List, drop, sym, ap, subst}
use Rattle.html_entities.specs.Entities.{html_entity}
use Rattle.markdown_scanners_tree.specs.scanners.entities.CharacterReference.{StartsWithReference}
use Rattle.markdown_events.proofs.inline_events.meaning_at.Goals as goal
use Rattle.markdown_events.proofs.parts.RestLemmas.{from_offset}

pub returns-in-Some : goal.returns-in-Some
returns-in-Some c = λ len meaning is.
    let only = rw c.in-Some.is at c.scan_entity-meaning.ensures.only in
    let whole = subst (λ t. StartsWithReference html_entity (drop c.args.offset t) len meaning) (sym c.as_bytes.ensures.value) is in
    let same = only (len, meaning) (subst (λ t. StartsWithReference html_entity t len meaning) (sym (from_offset c.as_bytes.result.now c.args.offset)) whole) in
    ap (λ (r : ℕ × List ℕ). r.1) (sym same)

pub returns-in-None : goal.returns-in-None
returns-in-None c = λ len meaning is.
    let none = rw c.in-None.is at c.scan_entity-meaning.ensures.found in
    let whole = subst (λ t. StartsWithReference html_entity (drop c.args.offset t) len meaning) (sym c.as_bytes.ensures.value) is in
    absurd (none len meaning (subst (λ t. StartsWithReference html_entity t len meaning) (sym (from_offset c.as_bytes.result.now c.args.offset)) whole))
