use Rattle.std.proofs.Common.{◌+◌, arith, ap, ◌∙◌, refl, take}
use Rattle.std.specs.List.{prefix_len}
use Rattle.std.specs.Option.{option_map}
use Rattle.std.proofs.lemmas.List.{take_rest}
use Rattle.markdown_scanners_tree.specs.scanners.links.Autolink.{is_uri_byte}
use Rattle.markdown_scanners_tree.proofs.SomeExactlyLemmas.{SomeExactly-from_none}
use Rattle.markdown_scanners_tree.proofs.scanners.links.LinkLemmas.{uri_scheme, uri_found, uri_close, one_uri, cut_before, cut_after}
use Rattle.markdown_scanners_tree.proofs.scanners.links.scan_autolink_bytes.Goals as goal
use Rattle.markdown_scanners_tree.proofs.scanners.links.scan_autolink_bytes.Goals.{else-end-bytes-via-then-end-bytes+else-bytes-end-eq62, else-end-bytes-via-else-end-bytes}

pub returns-in_err-scheme-clause-found : goal.returns-in_err-scheme-clause-found
returns-in_err-scheme-clause-found c =
    let bytes = c.args.bytes.now in
    SomeExactly-from_none _ (ap (option_map (λ n. take n bytes)) c.from_residual.ensures)
    (λ uri is. c.in_err-scheme.ensures.found _ (uri_scheme bytes uri is))

pub returns-in_err-scheme-clause-only : goal.returns-in_err-scheme-clause-only
returns-in_err-scheme-clause-only c = rw c.from_residual.ensures tt

pub returns-then-bytes-end-eq62-clause-found : goal.returns-then-bytes-end-eq62-clause-found
returns-then-bytes-end-eq62-clause-found c =
    uri_found c.args.bytes.now c.in_ok-scheme.scheme (c.in_ok-scheme.scheme + 1 + c.address_prefix_len.result)
    c.in_ok-scheme.ensures.found
    (ap (λ k. c.in_ok-scheme.scheme + 1 + k)
    (c.address_prefix_len.ensures.count
    ∙ ap (prefix_len is_uri_byte) (take_rest c.args.bytes.now (c.in_ok-scheme.scheme + 1))))
    c.if-end-bytes.true c.if-bytes-end-eq62.true

pub returns-then-bytes-end-eq62-clause-only : goal.returns-then-bytes-end-eq62-clause-only
returns-then-bytes-end-eq62-clause-only c = λ uri is.
    one_uri c.args.bytes.now uri _ is (returns-then-bytes-end-eq62-clause-found c)

pub returns-then-bytes-end-eq62-clause-before : goal.returns-then-bytes-end-eq62-clause-before
returns-then-bytes-end-eq62-clause-before c = λ utf8.
    cut_before c.args.bytes.now _ _ refl c.if-end-bytes.true (omega (arith, c.if-bytes-end-eq62.true))

pub returns-then-bytes-end-eq62-clause-after : goal.returns-then-bytes-end-eq62-clause-after
returns-then-bytes-end-eq62-clause-after c = λ utf8.
    cut_after c.args.bytes.now _ _ refl utf8 c.if-end-bytes.true (omega (arith, c.if-bytes-end-eq62.true))

pub returns-else-end-bytes-clause-found : goal.returns-else-end-bytes-clause-found
returns-else-end-bytes-clause-found c = λ uri is.
    let close =
    uri_close c.args.bytes.now uri c.in_ok-scheme.scheme (c.in_ok-scheme.scheme + 1 + c.address_prefix_len.result) is
    c.in_ok-scheme.ensures.found
    (ap (λ k. c.in_ok-scheme.scheme + 1 + k)
    (c.address_prefix_len.ensures.count
    ∙ ap (prefix_len is_uri_byte) (take_rest c.args.bytes.now (c.in_ok-scheme.scheme + 1)))) in
    elim c.else-end-bytes.branch [
      | else-end-bytes-via-then-end-bytes+else-bytes-end-eq62 w ↦ w.if-bytes-end-eq62.false close.1
      | else-end-bytes-via-else-end-bytes w ↦ absurd (omega (arith, close.0, w.if-end-bytes.false))
    ]
