-- What is written is the text of the reference.
use Rattle.std.proofs.Common.{◌≡◌, subst, sym, ap, length, ◌∙◌, inr, arith, eqb-true, IsUtf8}
use Rattle.html_entities.specs.Entities.{html_entity}
use Rattle.markdown_values.specs.strings.Text.{cow_text}
use Rattle.markdown_scanners_tree.specs.scanners.entities.CharacterReference.{StartsWithReference}
use Rattle.markdown_scanners_c.specs.Buffer.{IsWritten}
use Rattle.markdown_scanners_c.specs.Texts.{IsReferenceText}
use Rattle.markdown_scanners_tree.proofs.ForCallers.{one_reference}
use Rattle.markdown_scanners_c.proofs.Meanings.{reference_within, no_reference, written_text}
use Rattle.markdown_scanners_c.proofs.texts.mds_scan_entity.Goals as goal

pub returns-in-Some-clause-text : goal.returns-in-Some-clause-text
unfolding IsReferenceText
returns-in-Some-clause-text c =
    let meaning = cow_text c.in-Some.meaning in
    let found = rw c.in-Some.is at c.scan_entity-taken.ensures.found in
    let same : c.as_bytes.result.now ≡ meaning = c.as_bytes.ensures.value ∙ c.as_str.ensures in
    let w = c.write_text in
    inr (inr (
      meaning,
      subst (λ n. StartsWithReference html_entity c.args.bytes.now n meaning) (sym w.ensures.taken) found,
      subst (λ t. IsWritten t c.args.buffer.now w.new.buffer w.result.status w.result.length) same w.ensures.written,
    ))

pub returns-in-Some-clause-within : goal.returns-in-Some-clause-within
returns-in-Some-clause-within c =
    let found = rw c.in-Some.is at c.scan_entity-taken.ensures.found in
    let w = c.write_text in
    omega (arith, (reference_within _ _ _ found).0, w.ensures.taken)

pub returns-in-Some-clause-room : goal.returns-in-Some-clause-room
returns-in-Some-clause-room c =
    let found = rw c.in-Some.is at c.scan_entity-taken.ensures.found in
    let same : c.as_bytes.result.now ≡ cow_text c.in-Some.meaning = c.as_bytes.ensures.value ∙ c.as_str.ensures in
    let w = c.write_text in
    omega (arith, (reference_within _ _ _ found).1, ap length same, w.ensures.written.0)

pub returns-in-Some-clause-only : goal.returns-in-Some-clause-only
returns-in-Some-clause-only c other is =
    let found = rw c.in-Some.is at c.scan_entity-taken.ensures.found in
    let one = one_reference html_entity c.args.bytes.now other (_, cow_text c.in-Some.meaning) is found in
    let same : c.as_bytes.result.now ≡ cow_text c.in-Some.meaning = c.as_bytes.ensures.value ∙ c.as_str.ensures in
    let w = c.write_text in
    (ap (λ r. r.0) one ∙ sym w.ensures.taken, ap (λ r. length r.1) one ∙ sym (w.ensures.written.0 ∙ ap length same))

pub returns-in-None-clause-only : goal.returns-in-None-clause-only
returns-in-None-clause-only c other is =
    let none = rw c.in-None.is at c.scan_entity-taken.ensures.found in absurd (none other.0 other.1 is)

pub returns-then-is_empty-clause-only : goal.returns-then-is_empty-clause-only
returns-then-is_empty-clause-only c other is =
    let none : length c.args.bytes.now ≡ 0 = eqb-true (length c.args.bytes.now) 0 (sym c.is_empty.ensures ∙ c.if-is_empty.true) in
    absurd (no_reference c.args.bytes.now other.0 other.1 none is)

pub returns-in-Some-clause-utf8 : goal.returns-in-Some-clause-utf8
returns-in-Some-clause-utf8 c =
    let utf8 = subst IsUtf8 (sym c.as_bytes.ensures.value) c.as_str.utf8 in
    written_text _ _ _ _ _ utf8 c.write_text.ensures.written
