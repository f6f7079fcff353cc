-- A text begins with one row at most, which has no more columns than bytes.
use Rattle.std.proofs.Common.{◌≡◌, arith, ap, sym, ◌∙◌, length}
use Rattle.std.proofs.lemmas.List.{length-map}
use Rattle.markdown_values.specs.values.Alignments.{alignment_number}
use Rattle.markdown_scanners_tree.proofs.ForCallers.{one_row}
use Rattle.markdown_scanners_c.proofs.Rows.{columns_within}
use Rattle.markdown_scanners_c.proofs.tables.mds_scan_table_head.Goals as goal

pub returns-in-Ok-Some-clause-room : goal.returns-in-Ok-Some-clause-room
returns-in-Ok-Some-clause-room c =
    let row = rw c.in-Ok-Some.field-0-is at c.in-Ok-Some.ensures.found in
    let inside = rw c.in-Ok-Some.field-0-is at c.in-Ok-Some.ensures.within in
    omega (
      arith,
      inside,
      columns_within _ _ row.0 row.1,
      ap length (c.deref.ensures.value ∙ row.2),
      length-map row.0 alignment_number,
      c.write_text.ensures.written.0,
    )

pub returns-in-Ok-Some-clause-only : goal.returns-in-Ok-Some-clause-only
returns-in-Ok-Some-clause-only c made other is =
    let row = rw c.in-Ok-Some.field-0-is at c.in-Ok-Some.ensures.found in
    let one = one_row c.args.bytes.now other.0 other.1 _ row.0 is row.1 in
    let w = c.write_text in
    let written : w.result.length ≡ length row.0 =
    w.ensures.written.0 ∙ (ap length (c.deref.ensures.value ∙ row.2) ∙ length-map row.0 alignment_number) in
    (ap (λ r. r.0) one ∙ sym w.ensures.taken, ap (λ r. length r.1) one ∙ sym written)

pub returns-in-Ok-None-clause-only : goal.returns-in-Ok-None-clause-only
returns-in-Ok-None-clause-only c made other is =
    let none = rw c.in-Ok-None.field-0-is at c.in-Ok-None.ensures.none in absurd (none other.0 other.1 is)
