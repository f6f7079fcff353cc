use Rattle.std.proofs.Common.{ℕ, List, ◌≡◌, ◌+◌, ◌-◌, ◌≤◌, arith, sym, ap, ◌∙◌, drop, get_or, take, length}
use Rattle.std.proofs.lemmas.List.{take_rest}
use Rattle.markdown_scanners_tree.specs.scanners.links.Autolink.{is_scheme_byte}
use Rattle.markdown_scanners_tree.proofs.PrefixLemmas.{counted_up_to, is_longest}
use Rattle.markdown_scanners_tree.proofs.scanners.links.LinkLemmas.{scheme_found, scheme_at}
use Rattle.markdown_scanners_tree.proofs.scanners.links.scheme_len.Goals as goal
use Rattle.markdown_scanners_tree.proofs.scanners.links.scheme_len.Goals.{then-n-lt2-via-then-n-lt2, then-n-lt2-via-else-n-lt2+then-n-gt-MOST_SCHEME_BYTES}
use Rattle.markdown_scanners_tree.proofs.scanners.links.scheme_len.Goals.{then-n-lt2-via-else-n-lt2+else-n-gt-MOST_SCHEME_BYTES+then-n-bytes}
use Rattle.markdown_scanners_tree.proofs.scanners.links.scheme_len.Goals.{then-n-lt2-via-else-n-lt2+else-n-gt-MOST_SCHEME_BYTES+else-n-bytes+then-bytes-n-ne58}

-- the bytes after the first, of which the first 32 are looked at
first_of : (bytes front : List ℕ) → front ≡ take 32 (take (length bytes - 1) (drop 1 bytes))
    → front ≡ take (31 + 1) (drop 1 bytes)
first_of bytes front first = first ∙ ap (take 32) (take_rest bytes 1)

pub returns-then-n-lt2-clause-found : goal.returns-then-n-lt2-clause-found
returns-then-n-lt2-clause-found c = λ n scheme.
    let bytes = c.args.bytes.now in
    let at = scheme_at bytes n scheme in
    let first = first_of bytes c.first_bytes.result.now c.first_bytes.ensures.first in
    let k = c.scheme_prefix_len-n.result in
    let counted =
    counted_up_to is_scheme_byte (drop 1 bytes) c.first_bytes.result.now k 31 first
    c.scheme_prefix_len-n.ensures.count in
    let count : 1 + k ≡ n = omega (arith, counted, at.count, at.at_most_thirty_two) in
    elim c.then-n-lt2.branch [
      | then-n-lt2-via-then-n-lt2 w ↦ absurd (omega (arith, count, at.at_least_two, w.if-n-lt2.true))
      | then-n-lt2-via-else-n-lt2+then-n-gt-MOST_SCHEME_BYTES w ↦
          absurd (omega (arith, count, at.at_most_thirty_two, w.if-n-gt-MOST_SCHEME_BYTES.true))
      | then-n-lt2-via-else-n-lt2+else-n-gt-MOST_SCHEME_BYTES+then-n-bytes w ↦
          absurd (omega (arith, count, at.inside, w.if-n-bytes.true))
      | then-n-lt2-via-else-n-lt2+else-n-gt-MOST_SCHEME_BYTES+else-n-bytes+then-bytes-n-ne58 w ↦
          w.if-bytes-n-ne58.true (ap (λ k. get_or bytes k 0) count ∙ at.ends)
    ]

pub returns-clause-found : goal.returns-clause-found
returns-clause-found c =
    let bytes = c.args.bytes.now in
    let first = first_of bytes c.first_bytes.result.now c.first_bytes.ensures.first in
    let k = c.scheme_prefix_len-n.result in
    let few : k ≤ 31 = omega (arith, c.if-n-gt-MOST_SCHEME_BYTES.false) in
    let run =
    is_longest is_scheme_byte (drop 1 bytes) c.first_bytes.result.now k 31 first c.scheme_prefix_len-n.ensures.count
    few in
    scheme_found bytes (1 + k)
    (omega (arith, c.if-n-bytes.false, c.scheme_prefix_len-n.ensures.within, c.first_bytes.ensures.within))
    (sym c.is_ascii_letter.ensures ∙ c.if-not-is_ascii_letter.false)
    (ap (λ k. 1 + k) run) c.if-n-lt2.false c.if-n-gt-MOST_SCHEME_BYTES.false
    (omega (arith, c.if-n-bytes.false, c.scheme_prefix_len-n.ensures.within, c.first_bytes.ensures.within))
    c.if-bytes-n-ne58.false
