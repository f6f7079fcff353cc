use Rattle.std.proofs.Common.{◌≡◌, ◌^◌, ◌≤◌, true, false, refl, sym, ◌∙◌, arith, length, take, get_or}
use Rattle.std.specs.List.{prefix_len}
use Rattle.std.proofs.Math.Nat.{pow-le-pow_right}
use Rattle.std.proofs.lemmas.List.{length-take-le}
use Rattle.markdown_scanners_tree.specs.Bytes.{is_digit}
use Rattle.markdown_scanners_tree.specs.scanners.list_items.ListMarker.{is_delimiter}
use Rattle.markdown_scanners_tree.proofs.PrefixLemmas.{list_all-prefix, counted_up_to, is_longest}
use Rattle.markdown_scanners_tree.proofs.scanners.list_items.ListItemLemmas.{all_digits, ordered-taken, ordered-scanned}
use Rattle.markdown_scanners_tree.proofs.scanners.list_items.scan_ordered_marker.Goals as goal

pub returns-then-digits-eq0-clause-found : goal.returns-then-digits-eq0-clause-found
returns-then-digits-eq0-clause-found c r marker =
    let bytes = c.args.bytes.now in
    let digits = c.scan_digits-digits.result in
    let counted = counted_up_to is_digit bytes c.first_bytes.result.now digits 9 c.first_bytes.ensures.first
    c.scan_digits-digits.ensures.run in
    let taken = ordered-taken bytes r.0 r.1 r.2 (prefix_len is_digit bytes) refl c.requires.no_bullet marker in
    elim c.then-digits-eq0.branch [
      | goal.then-digits-eq0-via-then-digits-eq0 w ↦ omega (arith, w.if-digits-eq0.true, counted, taken.0)
      | goal.then-digits-eq0-via-else-digits-eq0+then-digits-gt-MOST_DIGITS w ↦
          omega (arith, w.if-digits-gt-MOST_DIGITS.true, counted, taken.1)
    ]

pub returns-then-digits-bytes-clause-found : goal.returns-then-digits-bytes-clause-found
returns-then-digits-bytes-clause-found c r marker =
    let bytes = c.args.bytes.now in
    let digits = c.scan_digits-digits.result in
    let run = is_longest is_digit bytes c.first_bytes.result.now digits 9 c.first_bytes.ensures.first
    c.scan_digits-digits.ensures.run c.if-digits-gt-MOST_DIGITS.false in
    let taken = ordered-taken bytes r.0 r.1 r.2 digits run c.requires.no_bullet marker in
    elim c.then-digits-bytes.branch [
      | goal.then-digits-bytes-via-then-digits-bytes w ↦ omega (arith, w.if-digits-bytes.true, taken.2)
      | goal.then-digits-bytes-via-else-digits-bytes+then-not-is_delimiter_byte w ↦ (
          let is : is_delimiter (get_or bytes digits 0) ≡ true = taken.3 in
          let other : is_delimiter (get_or bytes digits 0) ≡ false =
          sym w.is_delimiter_byte.ensures ∙ w.if-not-is_delimiter_byte.true in
          cc
          )
    ]

pub number_of-start-requires-clause-fits : goal.number_of-start-requires-clause-fits
number_of-start-requires-clause-fits c =
    let n = c.scan_digits-digits.result in
    let counted = length-take-le n c.args.bytes.now
    (omega (arith, c.scan_digits-digits.ensures.within, c.first_bytes.ensures.within)) in
    let few : length (take n c.args.bytes.now) ≤ 9 = omega (arith, counted) in
    let power : 10 ^ length (take n c.args.bytes.now) ≤ 10 ^ 9 = pow-le-pow_right (omega arith) few in
    omega (arith, power)

pub number_of-start-requires-clause-digits_only : goal.number_of-start-requires-clause-digits_only
number_of-start-requires-clause-digits_only c =
    let run = is_longest is_digit c.args.bytes.now c.first_bytes.result.now c.scan_digits-digits.result 9
    c.first_bytes.ensures.first c.scan_digits-digits.ensures.run c.if-digits-gt-MOST_DIGITS.false in
    all_digits _ (rw run (list_all-prefix is_digit c.args.bytes.now))

pub returns-clause-found : goal.returns-clause-found
returns-clause-found c =
    let run = is_longest is_digit c.args.bytes.now c.first_bytes.result.now c.scan_digits-digits.result 9
    c.first_bytes.ensures.first c.scan_digits-digits.ensures.run c.if-digits-gt-MOST_DIGITS.false in
    rw c.number_of-start.ensures (ordered-scanned c.args.bytes.now c.scan_digits-digits.result run (omega arith)
    (omega arith) (omega (arith, c.scan_digits-digits.ensures.within, c.first_bytes.ensures.within))
    (sym c.is_delimiter_byte.ensures ∙ c.if-not-is_delimiter_byte.false))
