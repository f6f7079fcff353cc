-- The first pass over a label.
use Rattle.std.proofs.Common.{ℕ, ◌≡◌, ◌+◌, Some, None, true, false, refl, sym, ◌∙◌, ap, subst, drop, get_or, length, arith, nat_le, ◌&&◌, IfSome}
use Rattle.std.proofs.Common.{IfNone, Option}
use Rattle.std.proofs.lemmas.Bool.Decides.{nat_tests}
use Rattle.std.proofs.lemmas.List.{drop-drop, drop_all}
use Rattle.std.proofs.lemmas.Grind.{common_steps}
use Rattle.markdown_scanners_tree.specs.Bytes.{is_line_ending, is_white_space}
use Rattle.markdown_scanners_tree.specs.Handler.{Skips}
use Rattle.markdown_scanners_tree.specs.Kept.{line_len}
use Rattle.markdown_scanners_tree.specs.linklabel.private.NextPart.{IsBracket, IsEnding}
use Rattle.markdown_scanners_tree.specs.linklabel.private.Pass.{IsMeasure, backslash_len, spaces_len, tally_past_backslash, tally_past_spaces}
use Rattle.markdown_scanners_tree.specs.linklabel.private.Run.{is_ordinary}
use Rattle.markdown_scanners_tree.proofs.HandlerLemmas.{after_label_line}
use Rattle.markdown_scanners_tree.proofs.linklabel.MeasureLemmas.{IsTallied, measured_by, not_measured, starts, past_ordinary, past_slash, past_white}
use Rattle.markdown_scanners_tree.proofs.linklabel.MeasureLemmas.{past_line, past_some_spaces, ending_here}
use Rattle.markdown_scanners_tree.proofs.linklabel.SourceSteps.{IsOnlySkip, none_at_end, none_at_opening, none_at_ending}
use Rattle.markdown_scanners_tree.proofs.linklabel.SourceSteps.{none_at_second_ending, none_at_late_ending, none_so_late, rest_is, ending_fits}
use Rattle.markdown_scanners_tree.proofs.linklabel.WordSteps.{tallied_after_words}
use Rattle.markdown_scanners_tree.proofs.linklabel.measure.measure_from.Goals as goal
use Rattle.markdown_scanners_tree.proofs.linklabel.measure.measure_from.Goals.{then-ends_line-via-then-ends_line}
use Rattle.markdown_scanners_tree.proofs.linklabel.measure.measure_from.Goals.{then-ends_line-via-else-ends_line+then-characters-len-gt-MOST_CHARACTERS}

if_none : {A : Type 0} (P : Type 0) (r : Option A) → P → IfNone r P
if_none P None p = p
if_none P (Some x) p = tt

when_none : {A : Type 0} (W P : Type 0) (r : Option A) → IfNone r W → (W → P) → IfNone r P
when_none W P None w f = f w
when_none W P (Some x) w f = tt

when_some : {A : Type 0} (x : A) (W : Type 0) (P : A → Type 0) (r : Option A) → IfSome r (λ m. m ≡ x) → IfSome r (λ m. W)
    → (W → P x) → IfSome r P
when_some x W P None e w f = tt
when_some x W P (Some m) e w f = subst P (sym e) (f w)

pub loop-ix-init : goal.loop-ix-init
loop-ix-init g c =
    subst (IsTallied (Skips g.F.Fn c.args.handler.now) c.args.is_in_table c.args.bytes.now (length c.args.bytes.now) false
    c.args.words) (sym c.after_words-tally.ensures)
    (tallied_after_words _ c.args.is_in_table c.args.bytes.now c.args.words _ c.requires.words
    c.continued_count.ensures)

pub loop-ix-preserved-then-is_ordinary : goal.loop-ix-preserved-then-is_ordinary
loop-ix-preserved-then-is_ordinary g c =
    subst (IsTallied (Skips g.F.Fn c.args.handler.now) c.args.is_in_table c.args.bytes.now (length c.args.bytes.now) false
    (c.loop-ix.ix + 1)) (sym c.past_word-tally.ensures)
    (past_ordinary _ c.args.is_in_table c.args.bytes.now c.loop-ix.ix c.loop-ix.tally _ c.loop-ix.invariant
    c.loop-ix-test.true refl
    (sym c.is_ordinary.ensures ∙ c.if-is_ordinary.true))

pub returns-in-91-clause-none : goal.returns-in-91-clause-none
returns-in-91-clause-none g c =
    let parts = starts c.args.bytes.now c.loop-ix.ix 91 c.loop-ix-test.true
    (c.in-91.is) in
    none_at_opening _ _ _ _ _ _ c.loop-ix.invariant.at (refl, (_, parts)) _

pub returns-in-93-clause-found : goal.returns-in-93-clause-found
returns-in-93-clause-found g c =
    let inside = c.loop-ix-test.true in
    let o : IsBracket false (drop c.loop-ix.ix c.args.bytes.now) 93 =
    (refl, (_, starts c.args.bytes.now c.loop-ix.ix 93 inside (c.in-93.is))) in
    when_some _ _ (IsMeasure (Skips g.F.Fn c.args.handler.now) c.args.bytes.now c.args.is_in_table) c.measured.result
    c.measured.ensures.found c.measured.ensures.word
    (λ word. measured_by _ _ _ _ _ _ _ c.loop-ix.invariant.at o c.loop-ix.invariant.given _ c.loop-ix.invariant.tells
    c.loop-ix.invariant.within word
    (omega (arith, c.if-characters-le-MOST_CHARACTERS.true, c.characters.ensures)))

pub returns-in-93-clause-none : goal.returns-in-93-clause-none
returns-in-93-clause-none g c =
    let inside = c.loop-ix-test.true in
    let o : IsBracket false (drop c.loop-ix.ix c.args.bytes.now) 93 =
    (refl, (_, starts c.args.bytes.now c.loop-ix.ix 93 inside (c.in-93.is))) in
    let facts = c.loop-ix.invariant.facts in
    when_none _ _ c.measured.result c.measured.ensures.none (λ word.
    (let none : facts.has_word ≡ false = sym c.loop-ix.invariant.tells.word_is ∙ word in
    let no : (nat_le facts.characters 999 && facts.has_word) ≡ false = grind (arith, nat_tests, none) in
    not_measured _ _ _ _ _ _ _ c.loop-ix.invariant.at o c.loop-ix.invariant.given no))

pub loop-ix-preserved-in-92 : goal.loop-ix-preserved-in-92
loop-ix-preserved-in-92 g c =
    let ix = c.loop-ix.ix in
    let t = c.args.is_in_table in
    let text = c.args.bytes.now in
    let rest = rest_is text ix in
    let len : c.backslash_len-ix.result ≡ backslash_len (drop ix text) = c.backslash_len-ix.ensures ∙ ap backslash_len rest in
    let tally : c.past_backslash-tally.result ≡ tally_past_backslash t c.loop-ix.tally (drop ix text) =
    c.past_backslash-tally.ensures ∙ ap (tally_past_backslash t c.loop-ix.tally) rest in
    subst (λ z. z)
    (λ i. IsTallied (Skips g.F.Fn c.args.handler.now) t text (length text) false (ix + sym len i) (sym tally i))
    (past_slash _ t text ix c.loop-ix.tally _ c.loop-ix.invariant c.loop-ix-test.true
    refl c.in-92.is)

pub returns-then-ends_line-clause-none : goal.returns-then-ends_line-clause-none
returns-then-ends_line-clause-none g c =
    let ix = c.loop-ix.ix in
    let text = c.args.bytes.now in
    let inv = c.loop-ix.invariant in
    let ends : is_line_ending (get_or c.args.bytes.now ix 0) ≡ true = grind (arith, nat_tests, c.in-10.is) in
    let here = ending_here (Skips g.F.Fn c.args.handler.now) c.args.is_in_table text ix c.loop-ix.tally _ inv
    c.loop-ix-test.true refl ends in
    let len : c.ending_len-len.result ≡ line_len (drop ix text) =
    c.ending_len-len.ensures ∙ ap line_len (rest_is text ix) in
    let o : IsEnding (drop ix text) c.ending_len-len.result = here _ len in
    elim c.then-ends_line.branch [
      | then-ends_line-via-then-ends_line w ↦
          none_at_second_ending _ _ _ _ _ _ inv.at _ o _ _
          (sym inv.tells.ending_is ∙ sym c.ends_line.ensures ∙ w.if-ends_line.true) inv.given
      | then-ends_line-via-else-ends_line+then-characters-len-gt-MOST_CHARACTERS w ↦
          none_at_late_ending _ _ _ _ _ _ inv.at _ o _ _
          (omega (
            arith,
            w.if-characters-len-gt-MOST_CHARACTERS.true,
            w.characters-else-ends_line.ensures,
            inv.tells.characters_are,
          )) inv.given
    ]

pub returns-in_err-skip-in-10-clause-none : goal.returns-in_err-skip-in-10-clause-none
returns-in_err-skip-in-10-clause-none g c =
    let ix = c.loop-ix.ix in
    let text = c.args.bytes.now in
    let inv = c.loop-ix.invariant in
    let n = c.ending_len-len.result in
    let ends : is_line_ending (get_or c.args.bytes.now ix 0) ≡ true = grind (arith, nat_tests, c.in-10.is) in
    let here = ending_here (Skips g.F.Fn c.args.handler.now) c.args.is_in_table text ix c.loop-ix.tally _ inv
    c.loop-ix-test.true refl ends in
    let len : n ≡ line_len (drop ix text) =
    c.ending_len-len.ensures ∙ ap line_len (rest_is text ix) in
    let o : IsEnding (drop ix text) n = here _ len in
    let lacks : (m : ℕ) → Skips g.F.Fn c.args.handler.now (drop n (drop ix text)) m → ⊥ =
    λ m k. c.in_err-skip-in-10.ensures.found m
    (subst (λ r. Skips g.F.Fn c.args.handler.now r m) (drop-drop n ix text) k) in
    if_none _ _ (none_at_ending _ _ _ _ _ _ inv.at _ o lacks _)

pub skip_at-requires-clause-after : goal.skip_at-requires-clause-after
skip_at-requires-clause-after g c =
    let ix = c.loop-ix.ix in
    let text = c.args.bytes.now in
    let ends : is_line_ending (get_or c.args.bytes.now ix 0) ≡ true = grind (arith, nat_tests, c.in-10.is) in
    let here = ending_here (Skips g.F.Fn c.args.handler.now) c.args.is_in_table text ix c.loop-ix.tally _ c.loop-ix.invariant
    c.loop-ix-test.true refl ends in
    let len : c.ending_len-len.result ≡ line_len (drop ix text) =
    c.ending_len-len.ensures ∙ ap line_len (rest_is text ix) in
    after_label_line text ix c.ending_len-len.result (here _ len)

pub past_ending-tally-requires-clause-some : goal.past_ending-tally-requires-clause-some
past_ending-tally-requires-clause-some g c =
    let ix = c.loop-ix.ix in
    let text = c.args.bytes.now in
    let ends : is_line_ending (get_or c.args.bytes.now ix 0) ≡ true = grind (arith, nat_tests, c.in-10.is) in
    let here = ending_here (Skips g.F.Fn c.args.handler.now) c.args.is_in_table text ix c.loop-ix.tally _ c.loop-ix.invariant
    c.loop-ix-test.true refl ends in
    omega (
      arith,
      c.ending_len-len.ensures,
      ap line_len (rest_is text ix),
      (ending_fits text ix _ (here _ refl)).1,
    )

pub loop-ix-smaller-in-10 : goal.loop-ix-smaller-in-10
loop-ix-smaller-in-10 g c =
    let ix = c.loop-ix.ix in
    let text = c.args.bytes.now in
    let ends : is_line_ending (get_or c.args.bytes.now ix 0) ≡ true = grind (arith, nat_tests, c.in-10.is) in
    let inside = c.loop-ix-test.true in
    let here = ending_here (Skips g.F.Fn c.args.handler.now) c.args.is_in_table text ix c.loop-ix.tally _ c.loop-ix.invariant
    inside refl ends in
    omega (
      arith,
      inside,
      c.ending_len-len.ensures,
      ap line_len (rest_is text ix),
      (ending_fits text ix _ (here _ refl)).1,
    )

pub loop-ix-preserved-in-10 : goal.loop-ix-preserved-in-10
loop-ix-preserved-in-10 g c =
    let ix = c.loop-ix.ix in
    let text = c.args.bytes.now in
    let n = c.ending_len-len.result in
    let skip = c.in_ok-skip-in-10.skip in
    let ends : is_line_ending (get_or c.args.bytes.now ix 0) ≡ true = grind (arith, nat_tests, c.in-10.is) in
    let len : n ≡ line_len (drop ix text) =
    c.ending_len-len.ensures ∙ ap line_len (rest_is text ix) in
    let only : IsOnlySkip (Skips g.F.Fn c.args.handler.now) (drop n (drop ix text)) skip =
    subst (λ r. IsOnlySkip (Skips g.F.Fn c.args.handler.now) r skip) (sym (drop-drop n ix text))
    (record { answer = c.in_ok-skip-in-10.ensures.found; only = c.in_ok-skip-in-10.ensures.only }) in
    subst (IsTallied (Skips g.F.Fn c.args.handler.now) c.args.is_in_table text (length text) false (ix + (n + skip)))
    (sym c.past_ending-tally.ensures)
    (past_line _ c.args.is_in_table text ix c.loop-ix.tally _ c.loop-ix.invariant
    c.loop-ix-test.true refl ends n skip len
    (sym c.ends_line.ensures ∙ c.if-ends_line.false) only c.in_ok-skip-in-10.ensures.within)

pub loop-ix-preserved-in-32 : goal.loop-ix-preserved-in-32
loop-ix-preserved-in-32 g c =
    let ix = c.loop-ix.ix in
    let text = c.args.bytes.now in
    let rest = rest_is text (ix + 1) in
    let len : c.spaces_len-ix.result ≡ spaces_len (drop (ix + 1) text) = c.spaces_len-ix.ensures ∙ ap spaces_len rest in
    let tally : c.past_spaces-tally.result ≡ tally_past_spaces c.loop-ix.tally (drop (ix + 1) text) =
    c.past_spaces-tally.ensures ∙ ap (tally_past_spaces c.loop-ix.tally) rest in
    subst (λ z. z)
    (λ i. IsTallied (Skips g.F.Fn c.args.handler.now) c.args.is_in_table text (length text) false
    (ix + sym len i) (sym tally i))
    (past_some_spaces _ c.args.is_in_table text ix c.loop-ix.tally c.loop-ix.invariant c.loop-ix-test.true c.in-32.is)

pub loop-ix-preserved : goal.loop-ix-preserved
loop-ix-preserved g c =
    let ix = c.loop-ix.ix in
    let b = get_or c.args.bytes.now ix 0 in
    let other : is_ordinary b ≡ false = sym c.is_ordinary.ensures ∙ c.if-is_ordinary.false in
    let white : is_white_space b ≡ true = grind (arith, nat_tests, other, c.in_default) in
    let plain : is_line_ending b ≡ false = grind (arith, nat_tests, c.in_default) in
    subst (IsTallied (Skips g.F.Fn c.args.handler.now) c.args.is_in_table c.args.bytes.now (length c.args.bytes.now) false
    (ix + 1)) (sym c.past_space-tally.ensures)
    (past_white _ c.args.is_in_table c.args.bytes.now ix c.loop-ix.tally b c.loop-ix.invariant
    c.loop-ix-test.true refl white plain)

pub returns-else-characters-le-MOST_CHARACTERS-clause-none : goal.returns-else-characters-le-MOST_CHARACTERS-clause-none
returns-else-characters-le-MOST_CHARACTERS-clause-none g c =
    none_so_late _ _ _ _ _ _ c.loop-ix.invariant.at _ _
    (omega (
      arith,
      c.if-characters-le-MOST_CHARACTERS.false,
      c.characters.ensures,
      c.loop-ix.invariant.tells.characters_are,
    ))
    c.loop-ix.invariant.given

pub returns-after-loop-ix-clause-none : goal.returns-after-loop-ix-clause-none
returns-after-loop-ix-clause-none g c =
    none_at_end _ _ _ _ _ _ c.loop-ix.invariant.at
    (drop_all c.loop-ix.ix c.args.bytes.now
    (omega (arith, c.loop-ix-test.false))) _

pub ending_len-len-requires : goal.ending_len-len-requires
ending_len-len-requires g c = grind (arith, common_steps)

pub overflow_add-characters : goal.overflow_add-characters
overflow_add-characters g c = grind (arith, common_steps)
