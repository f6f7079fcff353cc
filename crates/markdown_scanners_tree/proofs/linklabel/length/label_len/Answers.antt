-- The closure answers 0 for each rest, and nothing else.
use Rattle.std.proofs.Common.{ℕ, ◌≡◌, Some, rules, of_calls, refl, ap}
use Rattle.markdown_scanners_tree.specs.NoSkips.{SkipsNothing}
use Rattle.markdown_scanners_tree.proofs.LabelHandlers.{label_of_more}
use Rattle.markdown_scanners_tree.proofs.SomeExactlyLemmas.{SomeExactly-from_none}
use Rattle.markdown_scanners_tree.proofs.linklabel.LabelLengths.{one_label_length}
use Rattle.markdown_scanners_tree.proofs.linklabel.length.label_len.Goals as goal

same : (m n : ℕ) → Some m ≡ Some n → m ≡ n
same m n e = cc

pub returns-in_err-measure-clause-found : goal.returns-in_err-measure-clause-found
returns-in_err-measure-clause-found c =
    SomeExactly-from_none _ c.from_residual.ensures (λ n is. c.in_err-measure.ensures.none is.label
    (label_of_more SkipsNothing _
    (λ rest skip e. record {
      shown = record c.args.bytes { now = rest };
      shows = refl;
      says = record { met = ap Some e };
    }) _ _ is.label is.is_label))

pub returns-clause-found : goal.returns-clause-found
returns-clause-found c =
    let m = c.in_ok-measure.ensures.found in
    record {
      label = m.label;
      is_label = label_of_more _ SkipsNothing
          (λ rest skip x. (let e : Some skip ≡ Some 0 = search (rules, of_calls) in same skip 0 e)) _ _ m.label m.is_label;
      counted = m.len_is;
    }

pub returns-clause-only : goal.returns-clause-only
returns-clause-only c = λ other is. one_label_length c.args.bytes.now other _ is (returns-clause-found c)
