use Rattle.std.proofs.Common.{◌≡◌, ◌==◌, true, sym, ap, ◌∙◌, drop}
use Rattle.markdown_scanners_tree.specs.Ascii.{right_bracket}
use Rattle.markdown_scanners_tree.specs.Bytes.{begins_with}
use Rattle.markdown_scanners_tree.proofs.PrefixLemmas.{from_offset}
use Rattle.markdown_inlines.proofs.plain_labels.PlainLabelLemmas.{plain_label}
use Rattle.markdown_inlines.proofs.plain_labels.scan_plain_label.Goals as goal

pub returns-then-is_closed-clause-found : goal.returns-then-is_closed-clause-found
returns-then-is_closed-clause-found c =
    let bytes = c.args.bytes.now in
    let words = c.words_len-words.result in
    let closes : begins_with (λ b. b == right_bracket) (drop words bytes) ≡ true =
    ap (begins_with (λ b. b == right_bracket)) (sym (from_offset bytes words)) ∙ sym c.is_closed.ensures ∙ c.if-is_closed.true in
    (plain_label bytes words c.words_len-words.ensures.words c.if-words-gt0.true c.if-words-le-MOST_BYTES.true closes).0

pub returns-then-is_closed-clause-within : goal.returns-then-is_closed-clause-within
returns-then-is_closed-clause-within c =
    let bytes = c.args.bytes.now in
    let words = c.words_len-words.result in
    let closes : begins_with (λ b. b == right_bracket) (drop words bytes) ≡ true =
    ap (begins_with (λ b. b == right_bracket)) (sym (from_offset bytes words)) ∙ sym c.is_closed.ensures ∙ c.if-is_closed.true in
    (plain_label bytes words c.words_len-words.ensures.words c.if-words-gt0.true c.if-words-le-MOST_BYTES.true closes).1

pub returns-then-is_closed-clause-cut : goal.returns-then-is_closed-clause-cut
returns-then-is_closed-clause-cut c =
    let bytes = c.args.bytes.now in
    let words = c.words_len-words.result in
    let closes : begins_with (λ b. b == right_bracket) (drop words bytes) ≡ true =
    ap (begins_with (λ b. b == right_bracket)) (sym (from_offset bytes words)) ∙ sym c.is_closed.ensures ∙ c.if-is_closed.true in
    (plain_label bytes words c.words_len-words.ensures.words c.if-words-gt0.true c.if-words-le-MOST_BYTES.true closes).2
