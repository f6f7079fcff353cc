-- What of the text is still to be appended before a word, with the space that is due.
use Rattle.std.proofs.Common.{◌≤◌, ◌<◌, ◌≡◌, ◌∷◌, ◌++◌, ◌&&◌, [], ℕ, true, false, List, refl, sym, ◌∙◌}
use Rattle.std.proofs.Common.{ap, arith, append-nil, nat_lt}
use Rattle.std.proofs.Math.Bool.{and-false}
use Rattle.std.proofs.lemmas.Bool.{le-ltb, lt-ltb}
use Rattle.std.specs.Prelude.{slice_range}
use Rattle.std.specs.String.{string_bytes}
use Rattle.markdown_scanners_tree.specs.linklabel.private.Pass.{due_after, due_text}
use Rattle.markdown_scanners_tree.proofs.linklabel.WriteLemmas.{no_slice}
use Rattle.markdown_scanners_tree.proofs.linklabel.write.write_gap.Goals as goal

none_due : (end offset : ℕ) → offset ≤ end → due_after end offset ≡ false
none_due end offset after = ap (λ v. nat_lt 0 end && v) (le-ltb end offset after) ∙ and-false (nat_lt 0 end)

due : (end offset : ℕ) → 0 < end → end < offset → due_after end offset ≡ true
due end offset word less = λ i. lt-ltb 0 end word i && lt-ltb end offset less i

no_word : (end offset : ℕ) → end ≤ 0 → due_after end offset ≡ false
no_word end offset none = ap (λ v. v && nat_lt end offset) (le-ltb 0 end none)

module _ (old text : List ℕ) (mark end offset : ℕ) where
  stays : end ≡ offset → old ++ slice_range text mark offset ≡ (old ++ slice_range text mark end) ++ due_text (due_after end offset)
  stays same =
      let none = none_due end offset (omega (arith, same)) in
      ap (λ k. old ++ slice_range text mark k) (sym same) ∙ sym (append-nil (old ++ slice_range text mark end))
      ∙ ap (λ v. (old ++ slice_range text mark end) ++ due_text v) (sym none)

  leads : mark ≤ end → end ≤ 0 → old ++ slice_range text offset offset
      ≡ (old ++ slice_range text mark end) ++ due_text (due_after end offset)
  leads order none =
      ap (λ z. old ++ z) (no_slice text offset offset refl ∙ sym (no_slice text mark end (omega (arith, order, none))))
      ∙ sym (append-nil (old ++ slice_range text mark end))
      ∙ ap (λ v. (old ++ slice_range text mark end) ++ due_text v) (sym (no_word end offset none))

  joins : (new : List ℕ) → 0 < end → end < offset → new ≡ (old ++ slice_range text mark end) ++ (32 ∷ [])
      → new ++ slice_range text offset offset ≡ (old ++ slice_range text mark end) ++ due_text (due_after end offset)
  joins new word less e =
      ap (λ z. new ++ z) (no_slice text offset offset refl) ∙ append-nil new ∙ e
      ∙ ap (λ v. (old ++ slice_range text mark end) ++ due_text v) (sym (due end offset word less))

pub returns-then-end-offset-clause-bytes : goal.returns-then-end-offset-clause-bytes
returns-then-end-offset-clause-bytes c =
    stays (string_bytes c.args.out.now) c.args.text.now c.args.mark c.args.end c.args.offset c.if-end-offset.true

pub returns-then-end-eq0-clause-bytes : goal.returns-then-end-eq0-clause-bytes
returns-then-end-eq0-clause-bytes c =
    leads (string_bytes c.args.out.now) c.args.text.now c.args.mark c.args.end c.args.offset c.requires.ordered
    (omega (arith, c.if-end-eq0.true))

pub returns-clause-bytes : goal.returns-clause-bytes
returns-clause-bytes c =
    joins (string_bytes c.args.out.now) c.args.text.now c.args.mark c.args.end c.args.offset _
    (omega (arith, c.if-end-eq0.false)) (omega (arith, c.if-end-offset.false, c.requires.after))
    c.in_ok-push_with_space.ensures.bytes
