use Rattle.std.proofs.Common.{◌≡◌, ◌+◌, ◌-◌, ◌<◌, ◌≤◌, ◌==◌, ◌⊎◌, ℕ, List, arith, ap, sym, ◌∙◌, take, drop, length, get_or, inl, inr}
use Rattle.std.specs.List.{prefix_len}
use Rattle.std.proofs.lemmas.Bool.{cases_lt}
use Rattle.std.specs.Str.{IsUtf8, IsCharBoundary}
use Rattle.markdown_scanners_tree.specs.Ascii.{asterisk, underscore}
use Rattle.markdown_inlines.specs.DelimiterRuns.{char_before, can_open}
use Rattle.markdown_inlines.proofs.delimiter_runs.DelimiterRunLemmas.{counted_from, ends_there, some_counted, one_delimiter_run}
use Rattle.markdown_inlines.proofs.delimiter_runs.scan_delimiter_run.Goals as goal

inside_at : (bytes text : List ℕ) (offset : ℕ) → bytes ≡ text → (0 < offset → IsCharBoundary text offset) → (offset ≡ length bytes → ⊥) → offset < length text
inside_at bytes text offset same boundary other =
    elim (cases_lt 0 offset) [
      | inl some ↦ omega (arith, other, ap length same, (boundary some).0)
      | inr none ↦ omega (arith, other, ap length same, none)
    ]

ends_at : (bytes text : List ℕ) (offset count : ℕ) → bytes ≡ text → offset < length text → IsUtf8 text
    → (get_or bytes offset 0 ≡ asterisk) ⊎ (get_or bytes offset 0 ≡ underscore)
    → count ≡ prefix_len (λ b. b == get_or bytes offset 0) (take (length bytes - offset) (drop offset bytes))
    → count ≤ length (take (length bytes - offset) (drop offset bytes)) → IsCharBoundary text (offset + count)
ends_at bytes text offset count same inside utf8 delimiter counted fits =
    let byte = get_or bytes offset 0 in
    let ascii : byte < 128 = elim delimiter [ inl is ↦ omega (arith, is) | inr is ↦ omega (arith, is) ] in
    ends_there bytes text offset byte count same inside (ap (λ t. get_or t offset 0) (sym same)) counted ascii utf8 fits

pub sides-before-requires-clause-ends : goal.sides-before-requires-clause-ends
sides-before-requires-clause-ends c =
    ends_at c.as_bytes-bytes.result.now c.args.text.now c.args.offset c.scan_ch_repeat-count.result c.as_bytes-bytes.ensures.value
    (inside_at c.as_bytes-bytes.result.now c.args.text.now c.args.offset c.as_bytes-bytes.ensures.value c.requires c.if-offset-bytes.false) c.utf8.text
    (c.is_delimiter.ensures.0 c.if-not-is_delimiter.false) c.scan_ch_repeat-count.ensures.run c.scan_ch_repeat-count.ensures.within

pub returns-clause-boundary : goal.returns-clause-boundary
returns-clause-boundary c = ends_at c.as_bytes-bytes.result.now c.args.text.now c.args.offset c.scan_ch_repeat-count.result c.as_bytes-bytes.ensures.value
    (inside_at c.as_bytes-bytes.result.now c.args.text.now c.args.offset c.as_bytes-bytes.ensures.value c.requires c.if-offset-bytes.false) c.utf8.text
    (c.is_delimiter.ensures.0 c.if-not-is_delimiter.false) c.scan_ch_repeat-count.ensures.run c.scan_ch_repeat-count.ensures.within

pub returns-clause-found : goal.returns-clause-found
returns-clause-found c =
    let bytes = c.as_bytes-bytes.result.now in
    let count_is = counted_from bytes c.args.text.now c.args.offset
    (get_or bytes c.args.offset 0) c.scan_ch_repeat-count.result c.as_bytes-bytes.ensures.value c.scan_ch_repeat-count.ensures.run in
    record {
      delimiter = c.is_delimiter.ensures.0 c.if-not-is_delimiter.false;
      some = some_counted c.args.text.now c.args.offset c.scan_ch_repeat-count.result (get_or bytes c.args.offset 0) count_is
          (inside_at bytes c.args.text.now c.args.offset c.as_bytes-bytes.ensures.value c.requires c.if-offset-bytes.false)
          (ap (λ t. get_or t c.args.offset 0) (sym c.as_bytes-bytes.ensures.value));
      longest = count_is;
      opens = c.can_open.ensures ∙ ap (λ b. can_open (get_or bytes c.args.offset 0) b c.sides-before.result.1) c.sides-before.ensures.before
          ∙ ap (can_open (get_or bytes c.args.offset 0) (char_before c.args.text.now c.args.offset)) c.sides-before.ensures.after;
      closes = c.can_open-2.ensures ∙ ap (can_open (get_or bytes c.args.offset 0) c.sides-before.result.1) c.sides-before.ensures.before
          ∙ ap (λ a. can_open (get_or bytes c.args.offset 0) a (char_before c.args.text.now c.args.offset)) c.sides-before.ensures.after;
    }

pub returns-clause-only : goal.returns-clause-only
returns-clause-only c = λ other is. one_delimiter_run c.args.text.now c.args.offset other _ is (returns-clause-found c)
