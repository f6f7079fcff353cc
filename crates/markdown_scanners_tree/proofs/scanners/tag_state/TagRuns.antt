-- Bytes of one line that lead from state to state.
use Rattle.std.proofs.Common.{ℕ, zero, suc, List, [], ◌∷◌, ◌++◌, ◌+◌, ◌-◌, ◌<◌, ◌≤◌, ◌≡◌, false, length, take, sym, ap, subst, arith}
use Rattle.std.specs.Prelude.{slice_index}
use Rattle.std.proofs.lemmas.List.{take_more}
use Rattle.markdown_scanners_tree.specs.Bytes.{is_line_ending}
use Rattle.markdown_scanners_tree.specs.scanners.tag_state.private.TagMachine.{next_state, is_final, LeadsTo, AllKeep}
use Rattle.markdown_scanners_tree.specs.declared.scanners.tag_state.TagState.{TagState}

-- one more byte at the end
leads-snoc : (from to : TagState) (xs : List ℕ) (b : ℕ) → LeadsTo from xs to → is_final to ≡ false
    → is_line_ending b ≡ false → LeadsTo from (xs ++ b ∷ []) (next_state to b)
leads-snoc from to [] b l unfinished plain =
    (subst (λ s. is_final s ≡ false) (sym l) unfinished, plain, ap (λ s. next_state s b) l)
leads-snoc from to (x ∷ xs) b l unfinished plain =
    (l.0, l.1, leads-snoc (next_state from x) to xs b l.2 unfinished plain)

module _ (bytes : List ℕ) (from : TagState) where
  pub leads_step : (offset : ℕ) (to : TagState) → offset < length bytes → LeadsTo from (take offset bytes) to
      → is_final to ≡ false → is_line_ending (slice_index bytes offset) ≡ false
      → LeadsTo from (take (offset + 1) bytes) (next_state to (slice_index bytes offset))
  leads_step offset to low l unfinished plain =
      rw (take_more bytes offset 0 low) (leads-snoc from to (take offset bytes) (slice_index bytes offset) l unfinished plain)

  -- bytes that keep the state
  leads_run : (n offset : ℕ) (to : TagState) → offset + n ≤ length bytes → LeadsTo from (take offset bytes) to
      → is_final to ≡ false → AllKeep to bytes offset (offset + n) → LeadsTo from (take (offset + n) bytes) to
  leads_run zero offset to inside l unfinished keep =
      subst (λ k. LeadsTo from (take k bytes) to) (let e : offset ≡ offset + 0 = omega arith in e) l
  leads_run (suc n) offset to inside l unfinished keep =
      let low : offset < length bytes = omega arith in
      let here = keep offset (omega arith) (omega arith) in
      let one : LeadsTo from (take (offset + 1) bytes) to =
      subst (λ s. LeadsTo from (take (offset + 1) bytes) s) here.0 (leads_step offset to low l unfinished here.1) in
      let more : LeadsTo from (take (offset + 1 + n) bytes) to =
      leads_run n (offset + 1) to (omega arith) one unfinished (λ i low_i high_i. keep i (omega arith) (omega arith)) in
      subst (λ k. LeadsTo from (take k bytes) to) (let e : offset + 1 + n ≡ offset + suc n = omega arith in e) more

  pub leads_over_run : (offset end : ℕ) (to : TagState) → offset ≤ end → end ≤ length bytes
      → LeadsTo from (take offset bytes) to → is_final to ≡ false → AllKeep to bytes offset end
      → LeadsTo from (take end bytes) to
  leads_over_run offset end to rises inside l unfinished keep =
      let e : offset + (end - offset) ≡ end = omega arith in
      subst (λ k. LeadsTo from (take k bytes) to) e
      (leads_run (end - offset) offset to (omega arith) l unfinished (λ i low high. keep i low (omega arith)))
