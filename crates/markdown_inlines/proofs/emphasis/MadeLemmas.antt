-- Each emphasis stands between an opener and a closer that fit.
use Rattle.std.proofs.Common.{ℕ, suc, zero, Bool, true, false, not, List, [], ◌∷◌, ◌++◌, ◌-◌, ◌<◌, ◌≤◌, ◌≡◌, ◌⊎◌, inl, inr, ◌==◌, ◌+◌}
use Rattle.std.proofs.Common.{◌%◌, ◌&&◌, ◌||◌, min, nat_le}
use Rattle.std.proofs.Common.{Option, Some, None, refl, sym, ap, ◌∙◌, subst, arith, append_assoc, if◌then◌else◌, IsTrue}
use Rattle.std.specs.List.{AllByRecursion}
use Rattle.std.proofs.lemmas.Bool.{and_parts, eqb-true, leb-true}
use Rattle.markdown_scanners_tree.specs.Ascii.{tilde}
use Rattle.markdown_inlines.specs.declared.delimiter_runs.DelimiterRun.{DelimiterRun}
use Rattle.markdown_inlines.specs.declared.emphasis.Delimiters.{Delimiters}
use Rattle.markdown_inlines.specs.Emphasis.{left, are_pair, breaks_three, fits, is_multiple_of_three}
use Rattle.markdown_inlines.specs.Emphasis.{used, made_of, openers_left, closer_left, opener_for}
use Rattle.markdown_inlines.specs.Emphasis.{ended_by, ended}
use Rattle.markdown_inlines.specs.Emphasis.{opened, emphasis_from, emphasis_of}
use Rattle.markdown_inlines.specs.EmphasisLaws.{AreWhole, IsMade, IsWhole}
use Rattle.markdown_inlines.proofs.emphasis.EmphasisLemmas.{stepped}
use Rattle.markdown_inlines.proofs.emphasis.NestLemmas.{all_both, all_of, nearest_all, opener_some, opened_all, openers_left_all}

-- What is left of one of the runs, which can open. Where the runs are whole, all is left of one of tildes.
record IsFrom (Whole : Type 0) (runs : List Delimiters) (o : Delimiters) : Type 0 where
  before : List Delimiters
  whole : Delimiters
  later : List Delimiters
  runs_are : runs ≡ before ++ whole ∷ later
  same : o.run ≡ whole.run
  from : whole.start ≤ o.start
  to : o.end ≤ whole.end
  some : o.start < o.end
  opens : IsTrue whole.run.can_open
  entire : Whole → IsWhole whole × (o.run.byte ≡ tilde → (o.start ≡ whole.start) × (o.end ≡ whole.end))

from_more : (Whole : Type 0) (runs : List Delimiters) (run o : Delimiters) → IsFrom Whole runs o → IsFrom Whole (runs ++ run ∷ []) o
from_more Whole runs run o f = record {
  before = f.before;
  whole = f.whole;
  later = f.later ++ run ∷ [];
  runs_are = ap (λ rs. rs ++ run ∷ []) f.runs_are ∙ append_assoc f.before (f.whole ∷ f.later) (run ∷ []);
  same = f.same;
  from = f.from;
  to = f.to;
  some = f.some;
  opens = f.opens;
  entire = f.entire;
}

-- What is left of a closer. Where the runs are whole, all is left of one of tildes, or nothing.
record IsLeftOf (Whole : Type 0) (run closer : Delimiters) : Type 0 where
  same : closer.run ≡ run.run
  from : run.start ≤ closer.start
  to : closer.end ≡ run.end
  entire : Whole → run.run.byte ≡ tilde → (closer.start ≡ run.start) ⊎ (left closer ≡ 0)

not_true : (b : Bool) → not b ≡ true → ¬ IsTrue b
not_true false is = λ t. cc
not_true true is = λ t. cc

-- what fits of the same byte: a pair of tildes, or runs that the rule of three allows
pair_of : (o c : DelimiterRun) → c.byte ≡ tilde → (if c.byte == tilde then are_pair o c else not (breaks_three o c)) ≡ true → are_pair o c ≡ true
pair_of o c is fit = sym (ap (λ b. if b == tilde then are_pair o c else not (breaks_three o c)) is) ∙ fit

-- the lengths of a pair are no multiple of three together, or none is of its own
pair_apart : (o c : DelimiterRun) → are_pair o c ≡ true → ¬ IsTrue (breaks_three o c)
pair_apart o c pair breaks =
    let parts = and_parts (o.count == c.count) (nat_le c.count 2) pair in
    let rest = not (is_multiple_of_three o.count && is_multiple_of_three c.count) in
    let both = and_parts ((o.can_close || c.can_open) && is_multiple_of_three (o.count + c.count)) rest breaks in
    let least = and_parts (o.can_close || c.can_open) (is_multiple_of_three (o.count + c.count)) both.0 in
    let same = eqb-true o.count c.count parts.0 in
    let few = leb-true c.count 2 parts.1 in
    let sum = eqb-true ((o.count + c.count) % 3) 0 least.1 in
    let none : c.count ≡ 0 = omega (arith, same, few, sum) in
    not_true (is_multiple_of_three o.count && is_multiple_of_three c.count) both.1
    (ap (λ n. is_multiple_of_three n && is_multiple_of_three c.count) (same ∙ none) ∙ ap is_multiple_of_three none)

no_break : (o c : DelimiterRun) → (if c.byte == tilde then are_pair o c else not (breaks_three o c)) ≡ true → ¬ IsTrue (breaks_three o c)
no_break o c = by (c.byte == tilde)
  where
    by : (b : Bool) → (if b then are_pair o c else not (breaks_three o c)) ≡ true → ¬ IsTrue (breaks_three o c)
    by true is = pair_apart o c is
    by false is = not_true (breaks_three o c) is

one_or_two : (n m : ℕ) → 0 < n → 0 < m → (min 2 (min n m) ≡ 1) ⊎ (min 2 (min n m) ≡ 2)
one_or_two zero m some more = absurd (omega (arith, some))
one_or_two n zero some more = absurd (omega (arith, more))
one_or_two (suc zero) (suc m) some more = inl (omega arith)
one_or_two (suc (suc n)) (suc zero) some more = inl (omega arith)
one_or_two (suc (suc n)) (suc (suc m)) some more = inr (omega arith)

module _ (Whole : Type 0) (seen : List Delimiters) (run : Delimiters) (whole_run : Whole → IsWhole run) where
  -- of a pair of tildes all is used
  all_used : (o closer : Delimiters) (f : IsFrom Whole seen o) → IsLeftOf Whole run closer → 0 < left closer → fits closer.run o.run ≡ true → Whole
      → closer.run.byte ≡ tilde
      → (o.start ≡ f.whole.start) × (closer.start ≡ run.start) × (left o ≡ f.whole.run.count) × (left closer ≡ f.whole.run.count)
      × (f.whole.run.count ≤ 2)
  all_used o closer f l some fit whole is =
      let parts = and_parts (o.run.byte == closer.run.byte) _ fit in
      let pair = pair_of o.run closer.run is parts.1 in
      let counts = and_parts (o.run.count == closer.run.count) (nat_le closer.run.count 2) pair in
      let same = eqb-true o.run.count closer.run.count counts.0 in
      let few = leb-true closer.run.count 2 counts.1 in
      let opener = f.entire whole in
      let at = opener.1 (eqb-true o.run.byte closer.run.byte parts.0 ∙ is) in
      let o_count = ap (λ (r : DelimiterRun). r.count) f.same in
      let closer_count = ap (λ (r : DelimiterRun). r.count) l.same in
      let closer_whole = whole_run whole in
      let begins : closer.start ≡ run.start = elim (l.entire whole (ap (λ (r : DelimiterRun). r.byte) (sym l.same) ∙ is)) [
        | inl start ↦ start
        | inr none ↦ absurd (omega (arith, some, none))
      ] in (
        at.0,
        begins,
        omega (arith, at.0, at.1, opener.0),
        omega (arith, begins, l.to, closer_whole, same, o_count, closer_count),
        omega (arith, same, few, o_count),
      )

module _ (Whole : Type 0) (seen : List Delimiters) (run : Delimiters) (later : List Delimiters) (closes : IsTrue run.run.can_close)
    (whole_run : Whole → IsWhole run) (given : AreWhole (seen ++ run ∷ later) → Whole) where
  made_is : (o closer : Delimiters) → IsFrom Whole seen o → IsLeftOf Whole run closer → 0 < left closer → fits closer.run o.run ≡ true
      → IsMade (seen ++ run ∷ later) (made_of o closer)
  made_is o closer f l some fit =
      let parts = and_parts (o.run.byte == closer.run.byte) _ fit in record {
        before = f.before;
        opener = f.whole;
        between = f.later;
        closer = run;
        later = later;
        runs_are = ap (λ rs. rs ++ run ∷ later) f.runs_are;
        opens = f.opens;
        closes = closes;
        of_one_byte = ap (λ (r : DelimiterRun). r.byte) (sym f.same) ∙ eqb-true o.run.byte closer.run.byte parts.0
            ∙ ap (λ (r : DelimiterRun). r.byte) l.same;
        byte_is = ap (λ (r : DelimiterRun). r.byte) l.same;
        as_pair = λ is. subst (λ r. are_pair f.whole.run r ≡ true) l.same
            (subst (λ r. are_pair r closer.run ≡ true) f.same (pair_of o.run closer.run is parts.1));
        by_three = subst (λ r. ¬ IsTrue (breaks_three f.whole.run r)) l.same
            (subst (λ r. ¬ IsTrue (breaks_three r closer.run)) f.same (no_break o.run closer.run parts.1));
        counted = one_or_two (left o) (left closer) (omega (arith, f.some)) some;
        opening_from = omega (arith, f.from, f.some);
        opening_to = omega (arith, f.to, f.some);
        closing_from = l.from;
        closing_to = omega (arith, l.to, some);
        takes_all = λ whole is.
            let all = all_used Whole seen run whole_run o closer f l some fit (given whole) is in
            (omega (arith, all.0, all.2, all.3, all.4, f.some), all.1, omega (arith, all.2, all.3, all.4));
      }

  less_from : (o : Delimiters) (count : ℕ) → count ≤ left o → ¬ (left o ≡ count) → (Whole → o.run.byte ≡ tilde → left o ≡ count)
      → IsFrom Whole seen o → IsFrom Whole seen (record o { end = o.end - count })
  less_from o count few other all f = record {
    before = f.before;
    whole = f.whole;
    later = f.later;
    runs_are = f.runs_are;
    same = f.same;
    from = f.from;
    to = omega (arith, f.to);
    some = omega (arith, few, other, f.some);
    opens = f.opens;
    entire = λ whole. ((f.entire whole).0, λ is. absurd (other (all whole is)));
  }

  ended_made : (n : ℕ) (closer : Delimiters) (openers : List Delimiters) → IsLeftOf Whole run closer → AllByRecursion (IsFrom Whole seen) openers
      → AllByRecursion (IsMade (seen ++ run ∷ later)) (ended_by n closer openers).emphasis
      × AllByRecursion (IsFrom Whole seen) (ended_by n closer openers).openers × IsLeftOf Whole run (ended_by n closer openers).closer
  ended_made zero closer openers l all = (tt, all, l)
  ended_made (suc n) closer openers l all = by_found (λ c os is from. ended_made n c os is from) (opener_for closer openers) refl
    where
      used_all : (o : Delimiters) → IsFrom Whole seen o → 0 < left closer → fits closer.run o.run ≡ true → Whole → closer.run.byte ≡ tilde
          → (left o ≡ used o closer) × (left closer ≡ used o closer)
      used_all o f some fit whole is =
          let every = all_used Whole seen run whole_run o closer f l some fit whole is in
          (omega (arith, every.2, every.3, every.4), omega (arith, every.2, every.3, every.4))

      same_byte : (o c : Delimiters) → fits c.run o.run ≡ true → c.run.byte ≡ o.run.byte
      same_byte o c fit = sym (eqb-true o.run.byte c.run.byte (and_parts (o.run.byte == c.run.byte) _ fit).0)

      by_found : ((c : Delimiters) (os : List Delimiters) → IsLeftOf Whole run c → AllByRecursion (IsFrom Whole seen) os
          → AllByRecursion (IsMade (seen ++ run ∷ later)) (ended_by n c os).emphasis
          × AllByRecursion (IsFrom Whole seen) (ended_by n c os).openers × IsLeftOf Whole run (ended_by n c os).closer)
          → (found : Option (Delimiters × List Delimiters)) → opener_for closer openers ≡ found
          → AllByRecursion (IsMade (seen ++ run ∷ later)) (stepped n closer openers found).emphasis
          × AllByRecursion (IsFrom Whole seen) (stepped n closer openers found).openers × IsLeftOf Whole run (stepped n closer openers found).closer
      by_found next None is = (tt, all, l)
      by_found next (Some r) is =
          let some = opener_some closer openers r is in
          let one = nearest_all (IsFrom Whole seen) closer.run openers r all some.1 in
          let count = used r.0 closer in
          let more = next (closer_left closer count) (openers_left r.0 count r.1)
          (record {
            same = l.same;
            from = omega (arith, l.from);
            to = l.to;
            entire = λ whole is.
                let all = used_all r.0 one.0 some.0 one.2 whole (ap (λ (d : DelimiterRun). d.byte) l.same ∙ is) in
                inr (omega (arith, all.0, all.1));
          })
          (openers_left_all (IsFrom Whole seen) r.0 count r.1 (λ other. less_from r.0 count (omega arith) other
          (λ whole is. (used_all r.0 one.0 some.0 one.2 whole (same_byte r.0 closer one.2 ∙ is)).0) one.0) one.1) in
          ((made_is r.0 closer one.0 l some.0 one.2, more.0), more.1, more.2)

whole_left : (Whole : Type 0) (run : Delimiters) → IsLeftOf Whole run run
whole_left Whole run = record { same = refl; from = omega arith; to = refl; entire = λ whole is. inl refl }

-- the same of a run that may not close
run_made : (Whole : Type 0) (seen : List Delimiters) (run : Delimiters) (later openers : List Delimiters) → (Whole → IsWhole run)
    → (AreWhole (seen ++ run ∷ later) → Whole) → (b : Bool) → (b ≡ true → IsTrue run.run.can_close)
    → AllByRecursion (IsFrom Whole seen) openers
    → AllByRecursion (IsMade (seen ++ run ∷ later)) (ended_by (if b then left run else 0) run openers).emphasis
    × AllByRecursion (IsFrom Whole seen) (ended_by (if b then left run else 0) run openers).openers
    × IsLeftOf Whole run (ended_by (if b then left run else 0) run openers).closer
run_made Whole seen run later openers whole_run given false closes all = (tt, all, whole_left Whole run)
run_made Whole seen run later openers whole_run given true closes all =
    ended_made Whole seen run later (closes refl) whole_run given (left run) run openers (whole_left Whole run) all

opened_made : (Whole : Type 0) (seen : List Delimiters) (run c : Delimiters) (openers : List Delimiters) → (Whole → IsWhole run)
    → IsLeftOf Whole run c → AllByRecursion (IsFrom Whole seen) openers
    → AllByRecursion (IsFrom Whole (seen ++ run ∷ [])) (opened c openers)
opened_made Whole seen run c openers whole_run l all = opened_all (IsFrom Whole (seen ++ run ∷ [])) c openers one
    (all_of (IsFrom Whole seen) (IsFrom Whole (seen ++ run ∷ [])) (from_more Whole seen run) openers all)
  where
    one : c.run.can_open ≡ true → 0 < left c → IsFrom Whole (seen ++ run ∷ []) c
    one opens some = record {
      before = seen;
      whole = run;
      later = [];
      runs_are = refl;
      same = l.same;
      from = l.from;
      to = omega (arith, l.to);
      some = omega (arith, some);
      opens = ap (λ (r : DelimiterRun). r.can_open) (sym l.same) ∙ opens;
      entire = λ whole. (
        whole_run whole,
        λ is. elim (l.entire whole (ap (λ (r : DelimiterRun). r.byte) (sym l.same) ∙ is)) [
          | inl start ↦ (start, l.to)
          | inr none ↦ absurd (omega (arith, some, none))
        ],
      );
    }

made_from : (Whole : Type 0) (seen runs openers : List Delimiters) → (Whole → AreWhole runs) → (AreWhole (seen ++ runs) → Whole)
    → AllByRecursion (IsFrom Whole seen) openers → AllByRecursion (IsMade (seen ++ runs)) (emphasis_from openers runs)
made_from Whole seen [] openers wholes given all = tt
made_from Whole seen (run ∷ later) openers wholes given all =
    let whole_run = λ (whole : Whole). (wholes whole).0 in
    let now = run_made Whole seen run later openers whole_run given run.run.can_close (λ is. is) all in
    let joined = append_assoc seen (run ∷ []) later in
    all_both (IsMade (seen ++ run ∷ later)) (ended run openers).emphasis _ now.0
    (subst (λ rs. AllByRecursion (IsMade rs) (emphasis_from (opened (ended run openers).closer (ended run openers).openers) later)) joined
    (made_from Whole (seen ++ run ∷ []) later (opened (ended run openers).closer (ended run openers).openers) (λ whole. (wholes whole).1)
    (λ are. given (subst AreWhole joined are))
    (opened_made Whole seen run (ended run openers).closer (ended run openers).openers whole_run now.2 now.1)))

-- each emphasis of runs stands between two of them that fit
pub emphasis_is_made : (runs : List Delimiters) → AllByRecursion (IsMade runs) (emphasis_of runs)
emphasis_is_made runs = made_from (AreWhole runs) [] runs [] (λ whole. whole) (λ whole. whole) tt
