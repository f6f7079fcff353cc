use Rattle.std.proofs.Common.{◌≡◌, ◌+◌, ◌-◌, ℕ, List, arith, ap, sym, ◌∙◌, take, drop, length, get_or}
use Rattle.std.specs.List.{prefix_len}
use Rattle.std.proofs.lemmas.List.{take_rest, length-drop}
use Rattle.std.proofs.lemmas.Bool.{false≢true}
use Rattle.std.proofs.lemmas.Str.{IsCharBoundary-after_ascii}
use Rattle.markdown_inlines.specs.Emails.{is_domain, is_domain_byte}
use Rattle.markdown_inlines.proofs.emails.EmailLemmas.{IsAddressAt, address_at, address_found, one_email}
use Rattle.markdown_inlines.proofs.emails.scan_email_autolink_bytes.Goals as goal
use Rattle.markdown_inlines.proofs.emails.scan_email_autolink_bytes.Goals.{then-local-eq0-via-then-local-eq0}
use Rattle.markdown_inlines.proofs.emails.scan_email_autolink_bytes.Goals.{then-local-eq0-via-else-local-eq0+then-local-bytes}
use Rattle.markdown_inlines.proofs.emails.scan_email_autolink_bytes.Goals.{then-local-eq0-via-else-local-eq0+else-local-bytes+then-bytes-local-ne64}
use Rattle.markdown_inlines.proofs.emails.scan_email_autolink_bytes.Goals.{then-end-bytes-via-then-end-bytes}
use Rattle.markdown_inlines.proofs.emails.scan_email_autolink_bytes.Goals.{then-end-bytes-via-else-end-bytes+then-bytes-end-ne62}
use Rattle.markdown_inlines.proofs.emails.scan_email_autolink_bytes.Goals.{then-end-bytes-via-else-end-bytes+else-bytes-end-ne62+then-not-is_domain}

-- `&bytes[local + 1..end]`
domain_slice : (bytes : List ℕ) (m n : ℕ) → take (m + 1 + n - (m + 1)) (drop (m + 1) bytes) ≡ take n (drop (m + 1) bytes)
domain_slice bytes m n = ap (λ k. take k (drop (m + 1) bytes)) (omega arith)

pub returns-then-local-eq0-clause-found : goal.returns-then-local-eq0-clause-found
returns-then-local-eq0-clause-found c = λ address is.
    let e = address_at c.args.bytes.now address is in
    let m : c.local_len-local.result ≡ e.0 = c.local_len-local.ensures.count ∙ sym e.2.local_is in
    elim c.then-local-eq0.branch [
      | then-local-eq0-via-then-local-eq0 w ↦ absurd (omega (arith, m, w.if-local-eq0.true, e.2.some))
      | then-local-eq0-via-else-local-eq0+then-local-bytes w ↦ absurd (omega (arith, m, w.if-local-bytes.true, e.2.inside))
      | then-local-eq0-via-else-local-eq0+else-local-bytes+then-bytes-local-ne64 w ↦
          absurd (w.if-bytes-local-ne64.true (ap (λ k. get_or c.args.bytes.now k 0) m ∙ e.2.at))
    ]

pub returns-then-end-bytes-clause-found : goal.returns-then-end-bytes-clause-found
returns-then-end-bytes-clause-found c = λ address is.
    let e = address_at c.args.bytes.now address is in
    let m : c.local_len-local.result ≡ e.0 = c.local_len-local.ensures.count ∙ sym e.2.local_is in
    let n : c.domain_len-domain.result ≡ e.1 =
    c.domain_len-domain.ensures.count ∙ ap (prefix_len is_domain_byte) (take_rest c.args.bytes.now (c.local_len-local.result + 1))
    ∙ ap (λ k. prefix_len is_domain_byte (drop (k + 1) c.args.bytes.now)) m ∙ sym e.2.domain_is in
    let end : c.local_len-local.result + 1 + c.domain_len-domain.result ≡ e.0 + 1 + e.1 = omega (arith, m, n) in
    elim c.then-end-bytes.branch [
      | then-end-bytes-via-then-end-bytes w ↦ absurd (omega (arith, end, w.if-end-bytes.true, e.2.inside))
      | then-end-bytes-via-else-end-bytes+then-bytes-end-ne62 w ↦ absurd (w.if-bytes-end-ne62.true (ap (λ k. get_or c.args.bytes.now k 0) end ∙ e.2.closed))
      | then-end-bytes-via-else-end-bytes+else-bytes-end-ne62+then-not-is_domain w ↦
          let domain = domain_slice c.args.bytes.now c.local_len-local.result c.domain_len-domain.result in
          let other = sym (w.is_domain.ensures ∙ ap is_domain domain) ∙ w.if-not-is_domain.true in
          absurd (false≢true (sym other ∙ ap (λ k. is_domain (take c.domain_len-domain.result (drop (k + 1) c.args.bytes.now))) m
          ∙ ap (λ k. is_domain (take k (drop (e.0 + 1) c.args.bytes.now))) n ∙ e.2.is_domain))
    ]

found_at : (c : goal.Else-not-is_domain) → IsAddressAt c.args.bytes.now c.local_len-local.result c.domain_len-domain.result
found_at c =
    record {
      local_is = c.local_len-local.ensures.count;
      domain_is = c.domain_len-domain.ensures.count ∙ ap (prefix_len is_domain_byte) (take_rest c.args.bytes.now (c.local_len-local.result + 1));
      some = omega (arith, c.if-local-eq0.false);
      inside = omega (
        arith,
        c.if-end-bytes.false,
        c.if-local-bytes.false,
        c.local_len-local.ensures.within,
        c.domain_len-domain.ensures.within,
        ap length (take_rest c.args.bytes.now (c.local_len-local.result + 1)),
        length-drop (c.local_len-local.result + 1) c.args.bytes.now,
      );
      at = c.if-bytes-local-ne64.false;
      closed = c.if-bytes-end-ne62.false;
      is_domain = ap is_domain (sym (domain_slice c.args.bytes.now c.local_len-local.result c.domain_len-domain.result))
          ∙ sym c.is_domain.ensures ∙ c.if-not-is_domain.false;
    }

pub returns-clause-found : goal.returns-clause-found
returns-clause-found c = address_found c.args.bytes.now c.local_len-local.result c.domain_len-domain.result (found_at c)

pub returns-clause-only : goal.returns-clause-only
returns-clause-only c = λ other is. one_email c.args.bytes.now other _ is (returns-clause-found c)

pub returns-clause-after : goal.returns-clause-after
returns-clause-after c = λ utf8.
    let at = found_at c in
    IsCharBoundary-after_ascii c.args.bytes.now _ utf8 at.inside (omega (arith, at.closed))
