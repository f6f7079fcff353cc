-- Worked cases of truncations, by computing.
use Rattle.std.proofs.Common.{◌≡◌, ℕ, [], ◌∷◌, Some, None, refl, Bool, true, false}
use Rattle.markdown_values.specs.tree.Truncate.{Span, truncated, truncated_focus}

span : ℕ → ℕ → Bool → Span
span start end escaped = record { start = start; end = end; escaped = escaped }

cut_inside : truncated 4 ((1, span 0 3 false) ∷ (2, span 3 5 false) ∷ (3, span 5 9 false) ∷ []) ≡ (1, span 0 3 false) ∷ (2, span 3 4 false) ∷ []
unfolding span
cut_inside = refl

cut_inside_focus : truncated_focus 4 None None ((1, span 0 3 false) ∷ (2, span 3 5 false) ∷ (3, span 5 9 false) ∷ []) ≡ Some 2
unfolding span
cut_inside_focus = refl

cut_dropped : truncated 4 ((1, span 0 2 false) ∷ (2, span 4 6 false) ∷ []) ≡ (1, span 0 2 false) ∷ []
unfolding span
cut_dropped = refl

cut_dropped_focus : truncated_focus 4 None None ((1, span 0 2 false) ∷ (2, span 4 6 false) ∷ []) ≡ Some 1
unfolding span
cut_dropped_focus = refl

cut_backslash : truncated 4 ((1, span 0 2 false) ∷ (2, span 4 6 true) ∷ (3, span 6 8 false) ∷ []) ≡ (1, span 0 2 false) ∷ (2, span 3 4 true) ∷ (3, span 6 8 false) ∷ []
unfolding span
cut_backslash = refl

cut_backslash_focus : truncated_focus 4 None None ((1, span 0 2 false) ∷ (2, span 4 6 true) ∷ (3, span 6 8 false) ∷ []) ≡ Some 2
unfolding span
cut_backslash_focus = refl

cut_alone : truncated 4 ((1, span 4 6 false) ∷ []) ≡ []
unfolding span
cut_alone = refl

cut_alone_focus : truncated_focus 4 (Some 7) None ((1, span 4 6 false) ∷ []) ≡ None
unfolding span
cut_alone_focus = refl

cut_nothing : truncated 5 ((1, span 0 1 false) ∷ []) ≡ (1, span 0 1 false) ∷ []
unfolding span
cut_nothing = refl

cut_nothing_focus : truncated_focus 5 (Some 7) None ((1, span 0 1 false) ∷ []) ≡ Some 7
unfolding span
cut_nothing_focus = refl
