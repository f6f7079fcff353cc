use Rattle.std.proofs.Common.{◌≡◌, ℕ, Bool, min, ◌≤◌, ◌∙◌, ap, sym, subst, refl, take, arith}
use Rattle.std.specs.Char.{is_digit}
use Rattle.std.specs.List.{prefix_len}
use Rattle.std.specs.Str.Parse.{AllDigits, digits_value}
use Rattle.std.proofs.lemmas.List.{take-take}
use Rattle.markdown_scanners_tree.proofs.PrefixLemmas.{prefix_len-first}
use Rattle.markdown_scanners_tree.proofs.scanners.entities.DigitLemmas.{number_found, number_ended, prefix_digits}
use Rattle.markdown_scanners_tree.proofs.scanners.entities.scan_number.Goals as goal
use Rattle.markdown_scanners_tree.proofs.scanners.entities.scan_number.Goals.{then-n-eq0-via-then-n-eq0, then-n-eq0-via-else-n-eq0+then-n-bytes}
use Rattle.markdown_scanners_tree.proofs.scanners.entities.scan_number.Goals.{then-n-eq0-via-else-n-eq0+else-n-bytes+then-bytes-n-ne59}

abbrev digit : ℕ → ℕ → Bool
digit radix b = is_digit b radix

pub returns-then-n-eq0 : goal.returns-then-n-eq0
returns-then-n-eq0 c = λ r is.
    let bytes = c.args.bytes.now in
    let n = c.leading_number-n.result.0 in
    let limit = c.args.limit in
    let p = digit c.args.radix in
    let counted : n ≡ min limit (prefix_len p bytes) =
    c.leading_number-n.ensures.count ∙ (ap (prefix_len p) c.first_bytes.ensures.first ∙ prefix_len-first p limit bytes) in
    let ended =
    number_ended c.args.radix limit bytes (prefix_len p bytes) r.0 r.1 refl (omega (arith, c.requires.hexadecimal))
    is in
    let longest : n ≡ prefix_len p bytes = omega (arith, counted, ended.at_most_limit) in
    elim c.then-n-eq0.branch [
      | then-n-eq0-via-then-n-eq0 w ↦ absurd (omega (arith, longest, ended.at_least_one, w.if-n-eq0.true))
      | then-n-eq0-via-else-n-eq0+then-n-bytes w ↦ absurd (omega (arith, longest, ended.inside, w.if-n-bytes.true))
      | then-n-eq0-via-else-n-eq0+else-n-bytes+then-bytes-n-ne59 w ↦ w.if-bytes-n-ne59.true (rw longest ended.ends)
    ]

pub returns : goal.returns
returns c =
    let bytes = c.args.bytes.now in
    let front = c.first_bytes.result.now in
    let n = c.leading_number-n.result.0 in
    let limit = c.args.limit in
    let radix = c.args.radix in
    let p = digit radix in
    let counted : n ≡ min limit (prefix_len p bytes) =
    c.leading_number-n.ensures.count ∙ (ap (prefix_len p) c.first_bytes.ensures.first ∙ prefix_len-first p limit bytes) in
    let few : n ≤ limit = omega (arith, counted) in
    let taken : take n front ≡ take n bytes =
    ap (take n) c.first_bytes.ensures.first ∙ take-take n limit bytes few in
    let made : AllDigits radix (take n front) =
    subst (λ k. AllDigits radix (take k front)) (sym c.leading_number-n.ensures.count) (prefix_digits radix front) in
    number_found radix limit bytes n c.leading_number-n.result.1 (subst (AllDigits radix) taken made)
    (omega (arith, c.if-n-eq0.false)) few
    (omega (arith, c.if-n-bytes.false, c.leading_number-n.ensures.within, c.first_bytes.ensures.within))
    c.if-bytes-n-ne59.false (c.leading_number-n.ensures.value ∙ ap (digits_value radix) taken)
