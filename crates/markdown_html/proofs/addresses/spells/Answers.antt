use Rattle.std.proofs.Common.{refl, ap, sym, ◌∙◌, arith, drop, map}
use Rattle.std.specs.Char.{to_ascii_lowercase}
use Rattle.std.specs.Str.{bytes_eq}
use Rattle.markdown_html.proofs.AddressLemmas.{passed_break, too_many, one_more, at_the_end, with_true, with_false}
use Rattle.markdown_html.proofs.addresses.spells.Goals as goal
use Rattle.markdown_html.proofs.addresses.spells.Goals.{then-read-scheme-via-then-read-scheme}
use Rattle.markdown_html.proofs.addresses.spells.Goals.{then-read-scheme-via-else-read-scheme+then-not-eq_ignore_ascii_case}

pub loop-byte-init : goal.loop-byte-init
loop-byte-init c = record { within = omega arith; rest = refl }

pub loop-byte-preserved-then-is_tab_or_newline : goal.loop-byte-preserved-then-is_tab_or_newline
loop-byte-preserved-then-is_tab_or_newline c = record {
  within = c.loop-byte.invariant.within;
  rest = c.loop-byte.invariant.rest
      ∙ ap (λ r. bytes_eq (map to_ascii_lowercase r) (map to_ascii_lowercase (drop c.loop-byte.read c.args.scheme.now)))
      (passed_break c.args.written.now c.loop-byte.byte-index (omega arith) (sym c.is_tab_or_newline.ensures ∙ c.if-is_tab_or_newline.true));
}

pub bounds-scheme-read : goal.bounds-scheme-read
bounds-scheme-read c = let within = c.loop-byte.invariant.within in omega arith

pub returns-then-read-scheme : goal.returns-then-read-scheme
returns-then-read-scheme c =
    let written = c.args.written.now in
    let scheme = c.args.scheme.now in
    let i = c.loop-byte.byte-index in
    let read = c.loop-byte.read in
    let kept = sym c.is_tab_or_newline.ensures ∙ c.if-is_tab_or_newline.false in
    let within = c.loop-byte.invariant.within in
    elim c.then-read-scheme.branch [
      | then-read-scheme-via-then-read-scheme w ↦
          sym (c.loop-byte.invariant.rest ∙ too_many written i scheme read (omega arith) kept (omega (arith, w.if-read-scheme.true)))
      | then-read-scheme-via-else-read-scheme+then-not-eq_ignore_ascii_case w ↦
          sym (c.loop-byte.invariant.rest ∙ one_more written i scheme read (omega arith) kept (omega (arith, w.if-read-scheme.false))
          ∙ with_false _ _ (sym w.eq_ignore_ascii_case.ensures ∙ w.if-not-eq_ignore_ascii_case.true))
    ]

pub overflow_add-read : goal.overflow_add-read
overflow_add-read c = let within = c.loop-byte.invariant.within in omega arith

pub loop-byte-preserved : goal.loop-byte-preserved
loop-byte-preserved c =
    let within = c.loop-byte.invariant.within in
    let kept = sym c.is_tab_or_newline.ensures ∙ c.if-is_tab_or_newline.false in
    let more = one_more c.args.written.now c.loop-byte.byte-index c.args.scheme.now c.loop-byte.read (omega arith) kept (omega arith) in
    record {
      within = omega arith;
      rest = c.loop-byte.invariant.rest ∙ more
          ∙ with_true _ _ (sym c.eq_ignore_ascii_case.ensures ∙ c.if-not-eq_ignore_ascii_case.false);
    }

pub returns : goal.returns
returns c =
    let within = c.loop-byte.invariant.within in
    at_the_end c.args.written.now c.loop-byte.byte-index c.args.scheme.now c.loop-byte.read (omega arith) within ∙ sym c.loop-byte.invariant.rest
