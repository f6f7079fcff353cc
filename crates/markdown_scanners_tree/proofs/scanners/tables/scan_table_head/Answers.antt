use Rattle.std.proofs.Common.{◌≡◌, ◌≤◌, true, nat_le, arith, rules, ap, refl, sym, ◌∙◌, ◌-◌, length, take, drop}
use Rattle.std.specs.List.{prefix_len}
use Rattle.std.proofs.lemmas.Bool.{and_right}
use Rattle.std.proofs.lemmas.Bool.Decides.{nat_tests}
use Rattle.markdown_scanners_tree.specs.scanners.tables.DelimiterRow.{is_space}
use Rattle.markdown_scanners_tree.specs.scanners.tables.BegunRow.{begins_row}
use Rattle.markdown_scanners_tree.specs.scanners.tables.private.RowPass.{is_passed}
use Rattle.markdown_scanners_tree.proofs.PrefixLemmas.{from_offset, counted_up_to, is_longest}
use Rattle.markdown_scanners_tree.proofs.scanners.tables.RowLemmas.{no_row, row_tests}
use Rattle.markdown_scanners_tree.proofs.scanners.tables.RowPassLemmas.{passed-may}
use Rattle.markdown_scanners_tree.proofs.scanners.tables.DelimiterRowLemmas.{delimiter_row-too_far, cells_start, no_cells, delimiter_row-found}
use Rattle.markdown_scanners_tree.proofs.scanners.tables.DelimiterRowLemmas.{delimiter_row-refused, IsDelimiterRow-some, IsDelimiterRow-some_alignment}
use Rattle.markdown_scanners_tree.proofs.scanners.tables.OneRow.{one_row}
use Rattle.markdown_scanners_tree.proofs.scanners.tables.scan_table_head.Goals as goal

pub returns-then-indent-gt-MOST_SPACES-clause-none : goal.returns-then-indent-gt-MOST_SPACES-clause-none
returns-then-indent-gt-MOST_SPACES-clause-none c _ =
    let bytes = c.args.bytes.now in
    let counted = counted_up_to is_space bytes c.first_bytes.result.now c.scan_ch_repeat-indent.result 3
    c.first_bytes.ensures.first c.scan_ch_repeat-indent.ensures.run in
    delimiter_row-too_far bytes (prefix_len is_space bytes) refl (omega (arith, counted, c.if-indent-gt-MOST_SPACES.true))

pub returns-then-not-may_be_row-clause-none : goal.returns-then-not-may_be_row-clause-none
returns-then-not-may_be_row-clause-none c _ =
    let bytes = c.args.bytes.now in
    let run = is_longest is_space bytes c.first_bytes.result.now c.scan_ch_repeat-indent.result 3
    c.first_bytes.ensures.first c.scan_ch_repeat-indent.ensures.run c.if-indent-gt-MOST_SPACES.false in
    no_row bytes
    (ap is_passed
    (sym (from_offset bytes (prefix_len is_space bytes))
    ∙ ap (λ i. take (length bytes - i) (drop i bytes)) (sym run))
    ∙ sym c.may_be_row.ensures ∙ c.if-not-may_be_row.true)

pub returns-in_default-clause-none : goal.returns-in_default-clause-none
returns-in_default-clause-none c _ =
    let bytes = c.args.bytes.now in
    let run = is_longest is_space bytes c.first_bytes.result.now c.scan_ch_repeat-indent.result 3
    c.first_bytes.ensures.first c.scan_ch_repeat-indent.ensures.run c.if-indent-gt-MOST_SPACES.false in
    no_cells bytes c.scan_ch_repeat-indent.result c.scan_ch-piped.result run
    c.scan_ch-piped.ensures.first (rw c.in_default.is at c.in_ok-cells.ensures.none)

pub returns-then-has_hyphens : goal.returns-then-has_hyphens
returns-then-has_hyphens c =
    let bytes = c.args.bytes.now in
    let indent = c.scan_ch_repeat-indent.result in
    let few : indent ≤ 3 = c.if-indent-gt-MOST_SPACES.false in
    let run = is_longest is_space bytes c.first_bytes.result.now indent 3 c.first_bytes.ensures.first
    c.scan_ch_repeat-indent.ensures.run few in
    let inside : indent ≤ length bytes =
    omega (arith, c.scan_ch_repeat-indent.ensures.within, c.first_bytes.ensures.within) in
    let scanned = rw c.in-Some.is at c.in_ok-cells.ensures.found in
    let row =
    delimiter_row-found bytes indent c.scan_ch-piped.result run c.scan_ch-piped.ensures.first _ _ _ _ scanned
    few inside c.scan_ch-piped.ensures.within
    (row_tests bytes indent c.scan_ch-piped.result run c.scan_ch-piped.ensures.first _ _ _ _ scanned
    (sym c.may_be_row.ensures ∙ c.if-not-may_be_row.false) (sym c.has_hyphens.ensures ∙ c.if-has_hyphens.true)) in
    let some = IsDelimiterRow-some _ _ _ row in
    record {
      found =
          λ _. row;
      only = λ _ other is. one_row c.args.bytes.now other.0 other.1 _ _ is row;
      none = λ none. absurd (some none);
      empty = λ none. absurd (some none);
      some_alignment = λ _.
          IsDelimiterRow-some_alignment _ _ _ row;
      within = search (rules, inside);
      asked = search rules;
    }

pub returns-else-has_hyphens-clause-none : goal.returns-else-has_hyphens-clause-none
returns-else-has_hyphens-clause-none c _ =
    let bytes = c.args.bytes.now in
    let run = is_longest is_space bytes c.first_bytes.result.now c.scan_ch_repeat-indent.result 3
    c.first_bytes.ensures.first c.scan_ch_repeat-indent.ensures.run c.if-indent-gt-MOST_SPACES.false in
    let scanned = rw c.in-Some.is at c.in_ok-cells.ensures.found in
    delimiter_row-refused bytes c.scan_ch_repeat-indent.result c.scan_ch-piped.result
    run c.scan_ch-piped.ensures.first _ _ _ _ scanned
    (and_right _ _ (sym c.has_hyphens.ensures ∙ c.if-has_hyphens.false))

pub returns-in_err-cells-clause-asked : goal.returns-in_err-cells-clause-asked
returns-in_err-cells-clause-asked c =
    let bytes = c.args.bytes.now in
    let run = is_longest is_space bytes c.first_bytes.result.now c.scan_ch_repeat-indent.result 3
    c.first_bytes.ensures.first c.scan_ch_repeat-indent.ensures.run c.if-indent-gt-MOST_SPACES.false in
    let few : nat_le (prefix_len is_space bytes) 3 ≡ true = grind (arith, nat_tests, run) in
    let passed : is_passed (drop (prefix_len is_space bytes) bytes) ≡ true =
    rw (from_offset bytes c.scan_ch_repeat-indent.result, run) at (sym c.may_be_row.ensures ∙ c.if-not-may_be_row.false) in
    let may = passed-may (drop (prefix_len is_space bytes) bytes) passed in
    let first =
    rw (cells_start bytes c.scan_ch_repeat-indent.result c.scan_ch-piped.result run c.scan_ch-piped.ensures.first)
    at c.in_err-cells.ensures.asked in
    let begun : begins_row bytes ≡ true = rw (few, may) first in search (rules, begun)
