use Rattle.std.proofs.Common.{◌≡◌, ◌+◌, ◌-◌, sym, subst, ap, ◌∙◌, arith, drop, take, length, get_or}
use Rattle.std.proofs.lemmas.List.{get_or-drop}
use Rattle.std.proofs.lemmas.Str.{IsCharBoundary-after_ascii}
use Rattle.markdown_inlines.specs.PlainLabels.{IsPlainLabel}
use Rattle.markdown_inlines.proofs.link_targets.scan_label.Goals as goal

pub returns-in-Some-clause-found : goal.returns-in-Some-clause-found
returns-in-Some-clause-found c =
    let rest : c.as_bytes.result.now ≡ drop c.args.from c.args.text.now = c.as_bytes.ensures.value ∙ c.split_at.ensures.back in
    let is : IsPlainLabel (drop c.args.from c.args.text.now) c.in-Some.len =
    subst (λ bytes. IsPlainLabel bytes c.in-Some.len) rest (rw c.in-Some.is at c.scan_plain_label.ensures.found) in
    let long : c.in-Some.len - 0 ≡ c.in-Some.len = omega arith in
    let cut : c.range.result.now ≡ take c.in-Some.len (drop c.args.from c.args.text.now) =
    c.range.ensures.value ∙ ap (λ k. take k c.split_at.result.1.now) long ∙ ap (take c.in-Some.len) c.split_at.ensures.back in
    record {
      label = is.label;
      is_label = is.is_label;
      closed = omega (arith, is.closed);
      named = c.from.ensures.0 ∙ cut ∙ sym is.text;
    }

pub returns-in-Some-clause-within : goal.returns-in-Some-clause-within
returns-in-Some-clause-within c =
    let inside = rw c.in-Some.is at c.scan_plain_label.ensures.within in
    (omega arith, omega (arith, inside, ap length c.as_bytes.ensures.value, c.split_at.ensures.back_len, c.split_at.ensures.front_len))

pub returns-in-Some-clause-boundary : goal.returns-in-Some-clause-boundary
returns-in-Some-clause-boundary c =
    let rest : c.as_bytes.result.now ≡ drop c.args.from c.args.text.now = c.as_bytes.ensures.value ∙ c.split_at.ensures.back in
    let inside = rw c.in-Some.is at c.scan_plain_label.ensures.within in
    let close = rw c.in-Some.is at c.scan_plain_label.ensures.cut in
    let byte : get_or c.args.text.now (c.args.from + c.in-Some.len) 0 ≡ 93 =
    sym (get_or-drop c.args.from c.args.text.now c.in-Some.len 0) ∙ ap (λ t. get_or t c.in-Some.len 0) (sym rest) ∙ close in
    IsCharBoundary-after_ascii c.args.text.now (c.args.from + c.in-Some.len) c.utf8.text
    (omega (arith, inside, ap length c.as_bytes.ensures.value, c.split_at.ensures.back_len, c.split_at.ensures.front_len))
    (omega (arith, byte))
