use Rattle.std.proofs.Common.{◌+◌, arith, sym, ap, ◌∙◌, subst, encode_utf8, length, None}
use Rattle.markdown_scanners_tree.specs.scanners.entities.CharacterReference.{StartsWithReference}
use Rattle.markdown_scanners_tree.specs.scanners.entities.private.Digits.{StartsWithNumber}
use Rattle.markdown_scanners_tree.proofs.scanners.entities.ReferenceLemmas.{no_hexadecimal, no_decimal, hexadecimal_found, decimal_found}
use Rattle.std.proofs.lemmas.List.{take_rest, length-append}
use Rattle.std.proofs.lemmas.Bool.{false≢true}
use Rattle.markdown_scanners_tree.proofs.scanners.entities.numbered_char.Goals as goal
use Rattle.markdown_scanners_tree.proofs.scanners.entities.numbered_char.Goals.{else-bytes-gt2-via-then-bytes-gt2+else-is_hexadecimal_mark}
use Rattle.markdown_scanners_tree.proofs.scanners.entities.numbered_char.Goals.{else-bytes-gt2-via-else-bytes-gt2}

pub returns-in_default-clause-found : goal.returns-in_default-clause-found
returns-in_default-clause-found c known =
    λ n meaning is.
    no_hexadecimal known c.args.bytes.now n meaning c.requires.number
    (sym c.is_hexadecimal_mark.ensures ∙ c.if-is_hexadecimal_mark.true)
    (λ k number there. c.in_default.ensures (k, number)
    (subst (λ bs. StartsWithNumber 16 6 bs k number) (sym (take_rest c.args.bytes.now 3)) there))
    is

pub returns-in_default-scan_number-clause-found : goal.returns-in_default-scan_number-clause-found
returns-in_default-scan_number-clause-found c known =
    λ n meaning is.
    no_decimal known c.args.bytes.now n meaning c.requires.number
    (λ long letter. elim c.else-bytes-gt2.branch [
      | else-bytes-gt2-via-then-bytes-gt2+else-is_hexadecimal_mark w ↦
          false≢true (sym w.if-is_hexadecimal_mark.false ∙ (w.is_hexadecimal_mark.ensures ∙ letter))
      | else-bytes-gt2-via-else-bytes-gt2 w ↦ absurd (omega (arith, long, w.if-bytes-gt2.false))
    ])
    (λ k number there. c.in_default-scan_number.ensures (k, number)
    (subst (λ bs. StartsWithNumber 10 7 bs k number) (sym (take_rest c.args.bytes.now 2)) there))
    is

pub returns-then-is_hexadecimal_mark-clause-found : goal.returns-then-is_hexadecimal_mark-clause-found
returns-then-is_hexadecimal_mark-clause-found c known =
    subst (StartsWithReference known c.args.bytes.now (c.in-Some.n + 4)) (sym (ap encode_utf8 c.referenced.ensures))
    (hexadecimal_found known c.args.bytes.now c.in-Some.n c.in-Some.number
    c.if-bytes-gt2.true c.requires.number
    (sym c.is_hexadecimal_mark.ensures ∙ c.if-is_hexadecimal_mark.true)
    (subst (λ bs. StartsWithNumber 16 6 bs c.in-Some.n c.in-Some.number) (take_rest c.args.bytes.now 3)
    c.in-Some.ensures))

pub returns-clause-found : goal.returns-clause-found
returns-clause-found c known =
    let r = c.in-Some-scan_number in
    subst (StartsWithReference known c.args.bytes.now (r.n + 3)) (sym (ap encode_utf8 c.referenced-2.ensures))
    (decimal_found known c.args.bytes.now r.n r.number c.requires.long
    c.requires.number
    (subst (λ bs. StartsWithNumber 10 7 bs r.n r.number) (take_rest c.args.bytes.now 2) r.ensures))

pub returns-then-is_hexadecimal_mark-clause-within : goal.returns-then-is_hexadecimal_mark-clause-within
returns-then-is_hexadecimal_mark-clause-within c =
    let found =
    hexadecimal_found (λ _. None) c.args.bytes.now c.in-Some.n c.in-Some.number
    c.if-bytes-gt2.true c.requires.number
    (sym c.is_hexadecimal_mark.ensures ∙ c.if-is_hexadecimal_mark.true)
    (subst (λ bs. StartsWithNumber 16 6 bs c.in-Some.n c.in-Some.number) (take_rest c.args.bytes.now 3)
    c.in-Some.ensures) in
    omega (arith, found.n_is_length, ap length found.splits, length-append found.source found.rest)

pub returns-clause-within : goal.returns-clause-within
returns-clause-within c =
    let r = c.in-Some-scan_number in
    let found =
    decimal_found (λ _. None) c.args.bytes.now r.n r.number c.requires.long c.requires.number
    (subst (λ bs. StartsWithNumber 10 7 bs r.n r.number) (take_rest c.args.bytes.now 2) r.ensures) in
    omega (arith, found.n_is_length, ap length found.splits, length-append found.source found.rest)
