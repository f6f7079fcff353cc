use Rattle.std.proofs.Common.{ℕ, false, ◌≡◌, ◌≤◌, Some, sym, subst, ap, refl, arith, rules, of_calls}
use Rattle.std.specs.Str.{IsCharBoundary}
use Rattle.markdown_scanners_tree.specs.NoSkips.{SkipsNothing}
use Rattle.markdown_scanners_tree.specs.linklabel.Answer.{answered_label}
use Rattle.markdown_scanners_tree.specs.linklabel.Label.{IsLabel}
use Rattle.markdown_scanners_tree.proofs.ForCallers.{label_of_more, offset_of_rest}
use Rattle.markdown_inlines.proofs.link_targets.TargetLemmas.{label_some}
use Rattle.markdown_inlines.proofs.link_targets.scan_any_label.Goals as goal

same : (m n : ℕ) → Some m ≡ Some n → m ≡ n
same m n e = cc

pub returns-in-Some-clause-found : goal.returns-in-Some-clause-found
returns-in-Some-clause-found c =
    let found = rw c.in-Some.is at c.in_ok-len.ensures.found in
    let plain = label_of_more _ SkipsNothing
    (λ rest skip x. (let e : Some skip ≡ Some 0 = search (rules, of_calls) in same skip 0 e)) _ _ (answered_label (c.in-Some.len, c.in-Some.name)) found in
    record {
      label = answered_label (c.in-Some.len, c.in-Some.name);
      is_label = subst (λ rest. IsLabel SkipsNothing rest false (answered_label (c.in-Some.len, c.in-Some.name))) c.split_at.ensures.back plain;
      closed = (let some : 1 ≤ c.in-Some.len = label_some SkipsNothing _ (answered_label (c.in-Some.len, c.in-Some.name)) plain in omega (arith, some));
      named = refl;
    }

pub returns-in-Some-clause-within : goal.returns-in-Some-clause-within
returns-in-Some-clause-within c =
    let found = rw c.in-Some.is at c.in_ok-len.ensures.found in
    let within = rw c.in-Some.is at c.in_ok-len.ensures.within in
    let some : 1 ≤ c.in-Some.len = label_some _ _ (answered_label (c.in-Some.len, c.in-Some.name)) found in
    (omega (arith, some), omega (arith, some, within, c.split_at.ensures.back_len, c.split_at.ensures.front_len))

pub returns-in-Some-clause-boundary : goal.returns-in-Some-clause-boundary
returns-in-Some-clause-boundary c =
    let found = rw c.in-Some.is at c.in_ok-len.ensures.found in
    let cut = rw c.in-Some.is at c.in_ok-len.ensures.boundary in
    let some : 1 ≤ c.in-Some.len = label_some _ _ (answered_label (c.in-Some.len, c.in-Some.name)) found in
    subst (IsCharBoundary c.args.text.now) (omega (arith, some))
    (offset_of_rest _ c.args.text.now c.args.from c.in-Some.len c.split_at.ensures.back c.utf8.text (λ _. c.requires) (λ _. cut))

pub returns-in-None-clause-none : goal.returns-in-None-clause-none
returns-in-None-clause-none c = λ close name is.
    let none = rw c.in-None.is at c.in_ok-len.ensures.found in
    none is.label
    (label_of_more SkipsNothing _
    (λ rest skip e. record {
      shown = record c.args.text { now = rest };
      shows = refl;
      says = record { met = ap Some e };
    }) _ _ is.label (subst (λ rest. IsLabel SkipsNothing rest false is.label) (sym c.split_at.ensures.back) is.is_label))
