use Rattle.std.proofs.Common.{ap, arith, length, sym, take, ◌∙◌, ◌≡◌, ◌≤◌, ◌-◌}
use Rattle.std.proofs.lemmas.List.{get_or-take, length-take-le}
use Rattle.markdown_scanners_tree.specs.Bytes.{begins_with, is_line_ending}
use Rattle.markdown_scanners_tree.proofs.PrefixLemmas.{from_offset}
use Rattle.markdown_inlines.proofs.pieces.PlainLengths.{plain_all, plain_words}
use Rattle.markdown_inlines.proofs.piece_scanner.plain_len.Goals as goal

pub returns-then-is_at_ending-clause-count : goal.returns-then-is_at_ending-clause-count
returns-then-is_at_ending-clause-count c =
    let bytes = c.args.bytes.now in
    let end = c.spaced_len-end.result in
    let n = c.trimmed_len.result in
    let long : length (take end bytes) ≡ end = length-take-le end bytes c.spaced_len-end.ensures.within in
    let ending = sym (ap (begins_with is_line_ending) (from_offset bytes end)) ∙ (sym c.is_at_ending.ensures ∙ c.if-is_at_ending.true) in
    let few : n ≤ end = omega (arith, c.trimmed_len.ensures.within, long) in
    plain_words bytes end c.spaced_len-end.ensures.count ending n few
    (λ k low high. sym (get_or-take end bytes k 0 high) ∙ c.trimmed_len.ensures.spaces k low (omega (arith, long, high)))
    (λ some is. c.trimmed_len.ensures.last some (get_or-take end bytes (n - 1) 0 (omega (arith, some, few)) ∙ is))

pub returns-else-is_at_ending-clause-count : goal.returns-else-is_at_ending-clause-count
returns-else-is_at_ending-clause-count c =
    let bytes = c.args.bytes.now in
    let end = c.spaced_len-end.result in
    plain_all bytes end c.spaced_len-end.ensures.count
    (sym (ap (begins_with is_line_ending) (from_offset bytes end)) ∙ (sym c.is_at_ending.ensures ∙ c.if-is_at_ending.false))
