use Rattle.std.proofs.Common.{◌∙◌, ◌+◌, ◌-◌, ◌<◌, ◌≢◌, arith, refl, sym, subst, inl, inr, get_or, ap}
use Rattle.std.specs.List.{prefix_len}
use Rattle.markdown_scanners_tree.specs.scanners.classes.private.InDestination.{is_in_destination}
use Rattle.markdown_scanners_tree.proofs.PrefixLemmas.{from_offset}
use Rattle.markdown_scanners_tree.proofs.scanners.escapes.UnitLemmas.{plain_byte}
use Rattle.markdown_scanners_tree.proofs.scanners.links.BareLemmas.{so_far_escape, so_far_single, so_far_plain, found_here, none_open, none_deep}
use Rattle.markdown_scanners_tree.proofs.scanners.links.BareLemmas.{turns_open, turns_close, turns_other, ends_low, ends_closing, no_end, IsBareSoFar, IsStop}
use Rattle.markdown_scanners_tree.proofs.scanners.links.bare_len.Goals as goal
use Rattle.markdown_scanners_tree.proofs.scanners.links.bare_len.Goals.{else-starts_escape, then-starts_escape, else-loop-i-test}
use Rattle.markdown_scanners_tree.proofs.scanners.links.bare_len.Goals.{then-loop-i-test+else-byte-eq40+else-byte-eq41+then-byte-le32, then-loop-i-test+else-byte-eq40+then-byte-eq41+then-depth-eq0}

pub returns-then-depth-max_next-clause-found : goal.returns-then-depth-max_next-clause-found
returns-then-depth-max_next-clause-found c = λ n there.
    none_deep (c.args.max_next + 1) c.loop-i.depth c.loop-i.i n c.args.bytes.now c.loop-i.invariant.so_far
    c.loop-i-test.true (plain_byte c.args.bytes.now c.loop-i.i c.loop-i-test.true
    (λ is. absurd (omega (arith, is, c.if-byte-eq40.true)))) c.if-byte-eq40.true
    (omega (arith, c.if-depth-max_next.true, c.loop-i.invariant.so_far.depth_at_most)) there

pub loop-i-preserved-then-byte-eq40 : goal.loop-i-preserved-then-byte-eq40
loop-i-preserved-then-byte-eq40 c =
    let bytes = c.args.bytes.now in
    let i = c.loop-i.i in
    let depth = c.loop-i.depth in
    let is = c.if-byte-eq40.true in record {
      so_far =
          so_far_single (c.args.max_next + 1) depth (depth + 1) i bytes c.loop-i.invariant.so_far c.loop-i-test.true
          (plain_byte bytes i c.loop-i-test.true (λ b. absurd (omega (arith, b, is))))
          (no_end (get_or bytes i 0) depth (omega (arith, is)) (λ close none. absurd (omega (arith, close, is))))
          (turns_open _ depth (depth + 1) is refl) (omega (arith, c.if-depth-max_next.false));
      depth_within = omega (arith, c.loop-i.invariant.depth_within);
    }

pub loop-i-preserved-then-byte-eq41 : goal.loop-i-preserved-then-byte-eq41
loop-i-preserved-then-byte-eq41 c =
    let bytes = c.args.bytes.now in
    let i = c.loop-i.i in
    let depth = c.loop-i.depth in
    let is = c.if-byte-eq41.true in
    let some : 0 < depth = omega (arith, c.if-depth-eq0.false) in record {
      so_far =
          so_far_single (c.args.max_next + 1) depth (depth - 1) i bytes c.loop-i.invariant.so_far c.loop-i-test.true
          (plain_byte bytes i c.loop-i-test.true (λ b. absurd (omega (arith, b, is))))
          (no_end (get_or bytes i 0) depth (omega (arith, is)) (λ close none. absurd (omega (arith, none, some))))
          (turns_close _ depth (depth - 1) is (omega (arith, some)))
          (omega (arith, c.loop-i.invariant.so_far.depth_at_most));
      depth_within = omega (arith, c.loop-i.invariant.depth_within);
    }

pub loop-i-preserved : goal.loop-i-preserved
loop-i-preserved c =
    let bytes = c.args.bytes.now in
    let i = c.loop-i.i in
    let depth = c.loop-i.depth in
    let most = c.args.max_next + 1 in
    let no_open : get_or bytes i 0 ≢ 40 = λ b. c.if-byte-eq40.false b in
    let no_close : get_or bytes i 0 ≢ 41 = λ b. c.if-byte-eq41.false b in
    let unit : IsBareSoFar most depth (i + c.if-starts_escape.i) bytes = elim c.if-starts_escape.branch [
      | then-starts_escape w ↦ rw w.i-is
          (so_far_escape most depth i bytes c.loop-i.invariant.so_far
          (c.starts_escape.ensures.two w.if-starts_escape.true)
          (sym c.starts_escape.ensures.value ∙ w.if-starts_escape.true))
      | else-starts_escape w ↦ rw w.i-is
          (so_far_single most depth depth i bytes c.loop-i.invariant.so_far c.loop-i-test.true
          (sym c.starts_escape.ensures.value ∙ w.if-starts_escape.false)
          (no_end (get_or bytes i 0) depth (omega (arith, c.if-byte-le32.false)) (λ close none. no_close close))
          (turns_other _ depth depth no_open no_close refl) c.loop-i.invariant.so_far.depth_at_most)
    ] in record {
      so_far =
          so_far_plain most depth (i + c.if-starts_escape.i) c.plain_len.result bytes unit
          (omega (
            arith,
            c.plain_len.ensures.run
                ∙ ap (prefix_len is_in_destination) (from_offset bytes (i + c.if-starts_escape.i)),
          ));
      depth_within = omega (arith, c.loop-i.invariant.depth_within);
    }

pub returns-then-depth-eq0-2-clause-found : goal.returns-then-depth-eq0-2-clause-found
returns-then-depth-eq0-2-clause-found c =
    let stop : IsStop c.args.bytes.now c.loop-i.i c.loop-i.depth = elim c.loop-i-test.branch [
      | else-loop-i-test w ↦ inl w.loop-i-test.false
      | then-loop-i-test+else-byte-eq40+then-byte-eq41+then-depth-eq0 w ↦
          inr (
            w.loop-i-test.true,
            ends_closing (get_or c.args.bytes.now c.loop-i.i 0) c.loop-i.depth w.if-byte-eq41.true w.if-depth-eq0.true,
          )
      | then-loop-i-test+else-byte-eq40+else-byte-eq41+then-byte-le32 w ↦
          inr (
            w.loop-i-test.true,
            ends_low (get_or c.args.bytes.now c.loop-i.i 0) c.loop-i.depth (omega (arith, w.if-byte-le32.true)),
          )
    ] in
    found_here (c.args.max_next + 1) c.loop-i.i c.args.bytes.now
    (subst (λ d. IsBareSoFar (c.args.max_next + 1) d c.loop-i.i c.args.bytes.now) c.if-depth-eq0-2.true
    c.loop-i.invariant.so_far)
    (subst (IsStop c.args.bytes.now c.loop-i.i) c.if-depth-eq0-2.true stop)

pub returns-else-depth-eq0-2-clause-found : goal.returns-else-depth-eq0-2-clause-found
returns-else-depth-eq0-2-clause-found c = λ n there.
    let stop : IsStop c.args.bytes.now c.loop-i.i c.loop-i.depth = elim c.loop-i-test.branch [
      | else-loop-i-test w ↦ inl w.loop-i-test.false
      | then-loop-i-test+else-byte-eq40+then-byte-eq41+then-depth-eq0 w ↦
          inr (
            w.loop-i-test.true,
            ends_closing (get_or c.args.bytes.now c.loop-i.i 0) c.loop-i.depth w.if-byte-eq41.true w.if-depth-eq0.true,
          )
      | then-loop-i-test+else-byte-eq40+else-byte-eq41+then-byte-le32 w ↦
          inr (
            w.loop-i-test.true,
            ends_low (get_or c.args.bytes.now c.loop-i.i 0) c.loop-i.depth (omega (arith, w.if-byte-le32.true)),
          )
    ] in
    none_open (c.args.max_next + 1) c.loop-i.depth c.loop-i.i n c.args.bytes.now c.loop-i.invariant.so_far stop
    (omega (arith, c.if-depth-eq0-2.false)) there
