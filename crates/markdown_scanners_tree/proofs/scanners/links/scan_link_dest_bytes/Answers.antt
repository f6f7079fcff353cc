use Rattle.std.proofs.Common.{length, ap, ◌∙◌, ◌+◌, sym, subst, take, drop, get_or, arith, inl, inr, refl}
use Rattle.std.proofs.lemmas.Bool.{eqb-true}
use Rattle.std.proofs.lemmas.List.{take_rest}
use Rattle.std.proofs.lemmas.Str.{IsCharBoundary-start}
use Rattle.std.specs.Str.{IsUtf8}
use Rattle.markdown_scanners_tree.specs.scanners.links.FoundDestination.{with_raw_text}
use Rattle.markdown_scanners_tree.specs.scanners.links.LinkDestination.{IsPointedFrom}
use Rattle.markdown_scanners_tree.proofs.SomeExactlyLemmas.{SomeExactly-from_none}
use Rattle.markdown_scanners_tree.proofs.scanners.links.LinkLemmas.{no_pointed, no_bare, opened_by, byte_after, cut_before, cut_after, cut_at_end}
use Rattle.markdown_scanners_tree.proofs.scanners.links.OneDestination.{one_destination}
use Rattle.markdown_scanners_tree.proofs.scanners.links.scan_link_dest_bytes.Goals as goal
use Rattle.markdown_scanners_tree.proofs.scanners.links.scan_link_dest_bytes.Goals.{else-not-is_empty-via-then-not-is_empty+else-bytes-eq60, else-not-is_empty-via-else-not-is_empty}

pub returns-in_err-n-clause-found : goal.returns-in_err-n-clause-found
returns-in_err-n-clause-found c =
    let bytes = c.args.bytes.now in
    SomeExactly-from_none _ (ap (with_raw_text bytes) c.from_residual.ensures) (λ r.
    no_pointed (c.args.max_next + 1) bytes (opened_by bytes c.if-bytes-eq60.true)
    (λ n is. c.in_err-n.ensures.found n (subst (λ t. IsPointedFrom t n) (sym (take_rest bytes 1)) is)) r.0 r.1)

pub returns-in_err-n-clause-only : goal.returns-in_err-n-clause-only
returns-in_err-n-clause-only c = rw c.from_residual.ensures tt

pub returns-then-bytes-eq60-clause-found : goal.returns-then-bytes-eq60-clause-found
returns-then-bytes-eq60-clause-found c =
    let bytes = c.args.bytes.now in
    inl (record {
      after = drop 1 bytes;
      n = c.in_ok-n.n;
      opens = opened_by bytes c.if-bytes-eq60.true;
      pointed = subst (λ t. IsPointedFrom t c.in_ok-n.n) (take_rest bytes 1) c.in_ok-n.ensures.found;
      with_brackets = refl;
      slice = ap (λ k. take k (drop 1 bytes)) (omega arith);
    })

pub returns-then-bytes-eq60-clause-only : goal.returns-then-bytes-eq60-clause-only
returns-then-bytes-eq60-clause-only c =
    λ other is. one_destination (c.args.max_next + 1) c.args.bytes.now other.0 other.1 _ _ is
    (returns-then-bytes-eq60-clause-found c)

pub returns-then-bytes-eq60-clause-raw_text : goal.returns-then-bytes-eq60-clause-raw_text
returns-then-bytes-eq60-clause-raw_text c =
    let bytes = c.args.bytes.now in
    let n = c.in_ok-n.n in
    let close = byte_after bytes n _ c.in_ok-n.ensures.within c.in_ok-n.ensures.cut in
    record {
      inside = inr (refl, omega arith);
      ordered = (omega arith, omega arith);
      within = omega (arith, close.0);
      begins = λ utf8. cut_after bytes 0 1 (omega arith) utf8 (omega (arith, close.0)) (omega (arith, c.if-bytes-eq60.true));
      ends = λ utf8. cut_before bytes (1 + n) (n + 1) (omega arith) close.0 (omega (arith, close.1));
      after = λ utf8. cut_after bytes (1 + n) (n + 2) (omega arith) utf8 close.0 (omega (arith, close.1));
    }

pub returns-in_err-n-2-clause-found : goal.returns-in_err-n-2-clause-found
returns-in_err-n-2-clause-found c =
    let bytes = c.args.bytes.now in
    SomeExactly-from_none _ (ap (with_raw_text bytes) c.from_residual-in_err-n-2.ensures) (λ r.
    no_bare (c.args.max_next + 1) bytes
    (λ after e. elim c.else-not-is_empty.branch [
      | else-not-is_empty-via-then-not-is_empty+else-bytes-eq60 w ↦ w.if-bytes-eq60.false (ap (λ t. get_or t 0 0) e)
      | else-not-is_empty-via-else-not-is_empty w ↦
          absurd (omega (arith, ap length e, eqb-true _ 0 (sym c.is_empty.ensures ∙ w.if-not-is_empty.false)))
    ])
    (λ n is. c.in_err-n-2.ensures.found n is) r.0 r.1)

pub returns-in_err-n-2-clause-only : goal.returns-in_err-n-2-clause-only
returns-in_err-n-2-clause-only c = rw c.from_residual-in_err-n-2.ensures tt

pub returns-clause-found : goal.returns-clause-found
returns-clause-found c =
    let bytes = c.args.bytes.now in
    inr (record {
      unpointed = λ after e. elim c.else-not-is_empty.branch [
        | else-not-is_empty-via-then-not-is_empty+else-bytes-eq60 w ↦ w.if-bytes-eq60.false (ap (λ t. get_or t 0 0) e)
        | else-not-is_empty-via-else-not-is_empty w ↦
            absurd (omega (arith, ap length e, eqb-true _ 0 (sym c.is_empty.ensures ∙ w.if-not-is_empty.false)))
      ];
      bare = c.in_ok-n-2.ensures.found;
      slice = ap (λ k. take k bytes) (omega arith);
    })

pub returns-clause-only : goal.returns-clause-only
returns-clause-only c =
    λ other is. one_destination (c.args.max_next + 1) c.args.bytes.now other.0 other.1 _ _ is (returns-clause-found c)

pub returns-clause-raw_text : goal.returns-clause-raw_text
returns-clause-raw_text c =
    let bytes = c.args.bytes.now in
    let n = c.in_ok-n-2.n in
    let cut = λ (utf8 : IsUtf8 bytes). cut_at_end bytes n c.in_ok-n-2.ensures.within c.in_ok-n-2.ensures.cut in
    record {
      inside = inl (refl, refl);
      ordered = (omega arith, omega arith);
      within = c.in_ok-n-2.ensures.within;
      begins = IsCharBoundary-start bytes;
      ends = cut;
      after = cut;
    }
