-- Places in lines after containers.
use Rattle.std.proofs.Common.{ℕ, suc, min, Bool, true, false, ◌==◌, ◌-◌, ◌<◌, ◌≡◌, List, [], ◌∷◌, length, take}
use Rattle.std.proofs.Common.{Option, Some, None, refl, sym, ap, ◌∙◌, subst, inl, inr, arith}
use Rattle.std.proofs.lemmas.Bool.{cases_Bool}
use Rattle.std.proofs.lemmas.Bool.Decides.{nat_tests}
use Rattle.std.proofs.lemmas.List.{take_min}
use Rattle.std.proofs.lemmas.Nat.{mod_below}
use Rattle.markdown_scanners_tree.specs.Ascii.{greater_than_sign}
use Rattle.markdown_scanners_tree.specs.Bytes.{begins_with, is_at_line_end, is_space_or_tab}
use Rattle.markdown_scanners_tree.specs.line.State.{LineState, unscanned, rest_of, leading_spaces, space_within, after_space, columns_further}
use Rattle.markdown_scanners_tree.proofs.line.SpaceLemmas.{none_at_front}
use Rattle.markdown_scanners_tree.proofs.line.StepLemmas.{no_space_taken, rest-none}
use Rattle.markdown_blocks.specs.containers.Containers.{all_containers, begun_at, begun_after, match_line, past_quote, within, within_quote, within_width}
use Rattle.markdown_blocks.specs.content.Parts.{after_containers, after_indent, after_markers, after_width, first_offset}
use Rattle.markdown_blocks.specs.declared.containers.Container.{Container}
use Rattle.markdown_blocks.specs.declared.containers.Container.TheVariants.{Quote, Item, Footnote, TermDefinition}

-- by what the line has of the first container
goes : Bool → Container → List Container → LineState → Option (Bool × LineState) → LineState
goes blank c inner s found = elim found [ Some r ↦ after_containers r.0 inner (after_indent c blank r.1) | None ↦ s ]

pub stays-none : (blank : Bool) (c : Container) (inner : List Container) (s : LineState) → within c blank s ≡ None
    → after_containers blank (c ∷ inner) s ≡ s
unfolding goes
stays-none blank c inner s none = ap (goes blank c inner s) none

pub goes-some : (blank more : Bool) (c : Container) (inner : List Container) (s t : LineState) → within c blank s ≡ Some (more, t)
    → after_containers blank (c ∷ inner) s ≡ after_containers more inner (after_indent c blank t)
unfolding goes
goes-some blank more c inner s t some = ap (goes blank c inner s) some

-- by the container that begins first
marks : ℕ → LineState → Option (Container × LineState) → LineState
marks n s found = elim found [ Some r ↦ after_markers n r.1 | None ↦ s ]

pub marks-none : (n : ℕ) (s : LineState) → begun_at all_containers s ≡ None → after_markers (suc n) s ≡ s
unfolding marks
marks-none n s none = ap (marks n s) none

pub marks-some : (n : ℕ) (s t : LineState) (c : Container) → begun_at all_containers s ≡ Some (c, t) → after_markers (suc n) s ≡ after_markers n t
unfolding marks
marks-some n s t c some = ap (marks n s) some

pub marker_here : (s t : LineState) (indent : ℕ) (found : Option (Container × LineState)) → indent ≡ space_within 4 s → t ≡ after_space 4 s
    → begun_after all_containers indent t ≡ found → begun_at all_containers s ≡ found
marker_here s t indent found columns is here =
    subst (λ n. begun_after all_containers n (after_space 4 s) ≡ found) columns (subst (λ z. begun_after all_containers indent z ≡ found) is here)

pub first_is : (kept few begun : ℕ) (outer before : List Container) (line : List ℕ) (s : LineState) → few ≡ min kept (length outer)
    → before ≡ take few outer → begun ≡ length outer - few → s ≡ (match_line before line).state
    → after_markers begun s ≡ first_offset kept outer line
first_is kept few begun outer before line s is front count state =
    let fronts : before ≡ take kept outer = front ∙ ap (λ n. take n outer) is ∙ take_min kept outer in
    let counts : begun ≡ length outer - kept = omega (arith, count, is) in
    ap (λ n. after_markers n s) counts ∙ ap (after_markers (length outer - kept)) (state ∙ ap (λ cs. (match_line cs line).state) fronts)

-- at a line ending stand no space and no marker
end_no_space : (r : List ℕ) → is_at_line_end r ≡ true → begins_with is_space_or_tab r ≡ false
end_no_space [] end = refl
end_no_space (b ∷ bs) end = grind (arith, nat_tests)

end_no_quote : (r : List ℕ) → is_at_line_end r ≡ true → begins_with (λ b. b == greater_than_sign) r ≡ false
end_no_quote [] end = refl
end_no_quote (b ∷ bs) end = grind (arith, nat_tests)

no_quote : (n : ℕ) (s : LineState) → begins_with (λ b. b == greater_than_sign) (unscanned s) ≡ false → past_quote n s ≡ None
no_quote n s other = elim (cases_Bool (n == 4)) [ inl far ↦ rw far refl | inr near ↦ rw (near, other) refl ]

-- the line's space is spent
module _ (s : LineState) (small : s.phase < 4) (none : s.pending ≡ 0) (end : is_at_line_end (unscanned s) ≡ true) where
  no_space : leading_spaces (rest_of s) ≡ 0
  no_space = ap leading_spaces (rest-none s none) ∙ none_at_front (unscanned s) s.phase (end_no_space (unscanned s) end)

  stays : (n : ℕ) → after_space n s ≡ s
  stays n =
      let zero : space_within n s ≡ space_within 0 s = omega (arith, no_space) in
      ap (λ t. columns_further t s) zero ∙ sym (no_space_taken s small)

  width_spent : (c : Container) (inner : List Container) (begun : Bool) (width : ℕ) → within c true s ≡ within_width begun width true s
      → after_indent c true s ≡ after_width width true s → after_containers true inner s ≡ s → after_containers true (c ∷ inner) s ≡ s
  width_spent c inner true width is indent rest = stays-none true c inner s is
  width_spent c inner false width is indent rest =
      goes-some true true c inner s s is ∙ ap (after_containers true inner) (indent ∙ stays width) ∙ rest

  spent : (inner : List Container) → after_containers true inner s ≡ s
  spent [] = refl
  spent (Quote ∷ inner) =
      let same = stays 4 in
      stays-none true Quote inner s (ap within_quote (no_quote (space_within 4 s) (after_space 4 s)
      (subst (λ t. begins_with (λ b. b == greater_than_sign) (unscanned t) ≡ false) (sym same) (end_no_quote (unscanned s) end))))
  spent (Item item ∷ inner) = width_spent (Item item) inner item.starts_blank item.width refl refl (spent inner)
  spent (Footnote ∷ inner) = width_spent Footnote inner false 4 refl refl (spent inner)
  spent (TermDefinition definition ∷ inner) =
      width_spent (TermDefinition definition) inner definition.starts_blank definition.width refl refl (spent inner)

pub spent_after : (n : ℕ) (old s : LineState) → s ≡ after_space n old → s.pending ≡ 0 → is_at_line_end (unscanned s) ≡ true
    → (inner : List Container) → after_containers true inner s ≡ s
spent_after n old s is none end =
    let low : (after_space n old).phase < 4 = mod_below _ 4 (omega arith) in
    spent s (subst (λ (t : LineState). t.phase < 4) (sym is) low) none end
