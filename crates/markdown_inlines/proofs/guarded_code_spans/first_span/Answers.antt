use Rattle.std.proofs.Common.{◌≡◌, ◌≢◌, ◌+◌, ◌<◌, ◌≤◌, ◌∙◌, ap, arith, drop, get_or, length, refl, subst, sym, List, ℕ}
use Rattle.std.specs.List.{prefix_len}
use Rattle.std.proofs.lemmas.Bool.{eq-eqb}
use Rattle.std.proofs.lemmas.List.Sums.{prefix_len-drop_yes}
use Rattle.markdown_scanners_tree.specs.Ascii.{backtick}
use Rattle.markdown_inlines.specs.CodeSpans.{HasNone, IsBacktickString, IsCodeSpan, is_backtick}
use Rattle.markdown_inlines.specs.declared.code_spans.CodeSpan.{CodeSpan}
use Rattle.markdown_inlines.proofs.code_spans.CodeSpanLemmas.{none_after, none_joined, none_within, opens_counted, string_at}
use Rattle.markdown_inlines.proofs.guarded_code_spans.LastStringLemmas.{all_last_after, first_after, one_more_after}
use Rattle.markdown_inlines.proofs.guarded_code_spans.first_span.Goals as goal

-- the backticks at the offset
front_counted : (text rest : List ℕ) (offset fence : ℕ) → rest ≡ drop offset text → fence ≡ prefix_len is_backtick rest
    → fence ≡ prefix_len is_backtick (drop offset text)
front_counted text rest offset fence same count = count ∙ ap (prefix_len is_backtick) same

front_some : (text : List ℕ) (offset fence : ℕ) → offset < length text → get_or text offset 0 ≡ backtick
    → fence ≡ prefix_len is_backtick (drop offset text) → 0 < fence
front_some text offset fence inside opens count =
    omega (arith, count, prefix_len-drop_yes is_backtick text offset 0 inside (eq-eqb (get_or text offset 0) backtick opens))

pub loop-start-init : goal.loop-start-init
loop-start-init c =
    let text = c.args.text.now in
    let offset = c.args.offset in
    let fence = c.front_len-fence.result in
    let count = front_counted text c.after-rest.result offset fence c.after-rest.ensures c.front_len-fence.ensures.count in
    record {
      later = omega arith;
      within = c.front_len-fence.ensures.within;
      none = λ at low high. absurd (omega (arith, low, high));
      apart = subst (λ k. get_or c.after-rest.result k 0 ≢ backtick) (omega arith)
          (none_after c.after-rest.result 0 fence c.front_len-fence.ensures.count);
      counted = refl;
      lasts = first_after text _ offset fence (omega (arith, c.requires.within)) count (λ k. ap (λ t. get_or t k 0) c.clear.ensures.items);
    }

pub returns-then-run-fence-clause-found : goal.returns-then-run-fence-clause-found
returns-then-run-fence-clause-found c =
    let text = c.args.text.now in
    let offset = c.args.offset in
    let rest = c.after-rest.result in
    let fence = c.front_len-fence.result in
    let found = c.in-Some.ensures.found in
    let count = front_counted text rest offset fence c.after-rest.ensures c.front_len-fence.ensures.count in
    let some = front_some text offset fence c.requires.within c.requires.opens count in
    let span : CodeSpan = record { content = record { start = fence; end = c.in-Some.start }; len = c.in-Some.start + fence } in
    subst (λ t. IsCodeSpan t span) c.after-rest.ensures (record {
      opens = string_at rest 0 fence c.front_len-fence.ensures.count some (λ k zero. absurd (omega (arith, zero)));
      in_order = omega (arith, c.loop-start.invariant.later, found.0);
      closes = subst (IsBacktickString rest c.in-Some.start) c.if-run-fence.true found.1;
      next = none_joined rest fence fence c.loop-start.from _ c.loop-start.invariant.none (found.2 fence);
      counted = refl;
    })

pub loop-start-preserved : goal.loop-start-preserved
loop-start-preserved c =
    let text = c.args.text.now in
    let offset = c.args.offset in
    let rest = c.after-rest.result in
    let fence = c.front_len-fence.result in
    let from = c.loop-start.from in
    let start = c.in-Some.start in
    let run = c.in-Some.run' in
    let found = c.in-Some.ensures.found in
    let count = front_counted text rest offset fence c.after-rest.ensures c.front_len-fence.ensures.count in
    let some = front_some text offset fence c.requires.within c.requires.opens count in
    let before = none_joined rest fence fence from start c.loop-start.invariant.none (found.2 fence) in
    let string = subst (λ t. IsBacktickString t start run) c.after-rest.ensures found.1 in
    let none = subst (λ t. (n : ℕ) → HasNone t n from start) c.after-rest.ensures found.2 in
    let inside = subst (λ t. start + run ≤ length t) c.after-rest.ensures c.in-Some.ensures.within in
    record {
      later = omega (arith, c.loop-start.invariant.later, found.0);
      within = c.in-Some.ensures.within;
      none = none_joined rest fence fence start _ before (none_within rest fence start run found.1 c.if-run-fence.false);
      apart = found.1.not_followed;
      counted = omega (arith, c.loop-start.invariant.counted, c.in-Some.ensures.counts);
      lasts = one_more_after text c.loop-start.lasts.items c.put_last.new.lasts.items offset from start run (omega (arith, c.requires.within))
          c.loop-start.invariant.lasts (omega (arith, some, c.loop-start.invariant.later)) found.0 string none inside c.in_ok-put_last.ensures;
    }

pub returns-clause-found : goal.returns-clause-found
returns-clause-found c = λ span is.
    let text = c.args.text.now in
    let offset = c.args.offset in
    let rest = c.after-rest.result in
    let fence = c.front_len-fence.result in
    let here = subst (λ t. IsCodeSpan t span) (sym c.after-rest.ensures) is in
    let same : span.content.start ≡ fence = opens_counted rest span.content.start here.opens ∙ sym c.front_len-fence.ensures.count in
    let none = none_joined rest fence fence c.loop-start.from (span.content.end + 1) c.loop-start.invariant.none
    (c.in_default.ensures.none fence (span.content.end + 1) (omega (arith, here.opens.some, same))) in
    none span.content.end (omega (arith, same, here.in_order)) (omega arith)
    (subst (IsBacktickString rest span.content.end) same here.closes)

pub returns-clause-lasts : goal.returns-clause-lasts
returns-clause-lasts c =
    all_last_after c.args.text.now c.loop-start.lasts.items c.args.offset c.loop-start.from c.loop-start.invariant.lasts
    (subst (λ t. (n to : ℕ) → 0 < n → HasNone t n c.loop-start.from to) c.after-rest.ensures c.in_default.ensures.none)
