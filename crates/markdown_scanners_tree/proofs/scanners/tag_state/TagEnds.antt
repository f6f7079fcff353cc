-- The states of the tag scanner agree with the grammar of tags.
use Rattle.std.proofs.Common.{ℕ, List, [], ◌∷◌, ◌++◌, ◌≤◌, ◌≡◌, true, false, ◌==◌, ◌||◌, refl, sym, ap, ◌∙◌, subst, append_assoc, inl, inr, ◌⊎◌, ◌↔◌, arith}
use Rattle.std.proofs.lemmas.Bool.{cases_Bool}
use Rattle.std.proofs.lemmas.Bool.Decides.{nat_tests}
use Rattle.std.proofs.lemmas.List.{append-nil}
use Rattle.markdown_scanners_tree.specs.Ascii.{line_feed, carriage_return, quotation_mark, apostrophe, slash, less_than_sign, equals_sign, greater_than_sign}
use Rattle.markdown_scanners_tree.specs.Bytes.{is_letter, is_white_space, is_white_space_in_line, is_line_ending, is_unquoted}
use Rattle.markdown_scanners_tree.specs.scanners.html_tag.HtmlTag.{IsOpenTag, IsClosingTag, is_tag_name_byte, is_attribute_start, is_attribute_byte}
use Rattle.markdown_scanners_tree.specs.scanners.tag_state.private.TagMachine.{next_state, after_part, after_attribute_name, before_value, after_closing_name, state_after, is_tag_end, is_final}
use Rattle.markdown_scanners_tree.specs.declared.scanners.tag_state.TagState.{TagState}
use Rattle.markdown_scanners_tree.specs.declared.scanners.tag_state.TagState.TheVariants.{Start, Opened, Name, Spaced, AttributeName, AfterName, BeforeValue, Unquoted, Quoted, AfterValue}
use Rattle.markdown_scanners_tree.specs.declared.scanners.tag_state.TagState.TheVariants.{Slashed, Open, Closing, ClosingName, ClosingSpaced, ClosingReturned, ClosingEnded, Closed, Refused}
use Rattle.markdown_scanners_tree.proofs.scanners.tag_state.ClosingTagReading.{leads_closing, leads_closing_name, leads_closing_spaced, leads_closing_ended, leads_closing_returned}
use Rattle.markdown_scanners_tree.proofs.scanners.tag_state.OpenTagReading.{leads_name, leads_start, leads_opened, leads_spaced, leads_attribute, leads_after_name}
use Rattle.markdown_scanners_tree.proofs.scanners.tag_state.OpenTagReading.{leads_before_value, leads_unquoted, leads_quoted, leads_after_value, leads_slashed}
use Rattle.markdown_scanners_tree.proofs.scanners.tag_state.TagReading.{Leads}
use Rattle.markdown_scanners_tree.proofs.scanners.tag_state.TagWhole.{open_whole, closing_whole, refused_stays}

-- an open tag, or a closing tag with at most one line ending of the source
abbrev pub IsTagOf : List ℕ → ℕ → Type 0
IsTagOf bytes endings = IsOpenTag bytes ⊎ (IsClosingTag bytes × (endings ≤ 1))

-- one more byte, in each state
leads_next : (state : TagState) (b : ℕ) (pre : List ℕ) → Leads state pre
    → Leads (next_state state b) (pre ++ b ∷ [])
leads_next Start b pre r = leads_start b pre r
leads_next Opened b pre r = leads_opened b pre r
leads_next Name b pre r = leads_name b pre r
leads_next Spaced b pre r = leads_spaced b pre r
leads_next AttributeName b pre r = leads_attribute b pre r
leads_next AfterName b pre r = leads_after_name b pre r
leads_next BeforeValue b pre r = leads_before_value b pre r
leads_next Unquoted b pre r = leads_unquoted b pre r
leads_next (Quoted quote) b pre r = leads_quoted quote b pre r
leads_next AfterValue b pre r = leads_after_value b pre r
leads_next Slashed b pre r = leads_slashed b pre r
leads_next Open b pre r = tt
leads_next Closing b pre r = leads_closing b pre r
leads_next ClosingName b pre r = leads_closing_name b pre r
leads_next ClosingSpaced b pre r = leads_closing_spaced b pre r
leads_next ClosingReturned b pre r = leads_closing_returned b pre r
leads_next ClosingEnded b pre r = leads_closing_ended b pre r
leads_next Closed b pre r = tt
leads_next Refused b pre r = tt

leads_run : (s : TagState) (pre xs : List ℕ) → Leads s pre → Leads (state_after s xs) (pre ++ xs)
leads_run s pre [] l = subst (λ z. Leads s z) (sym (append-nil pre)) l
leads_run s pre (x ∷ xs) l =
    subst (λ z. Leads (state_after (next_state s x) xs) z) (append_assoc pre (x ∷ []) xs)
    (leads_run (next_state s x) (pre ++ x ∷ []) xs (leads_next s x pre l))

tag_at_end : (s : TagState) (bytes : List ℕ) (endings : ℕ) → Leads s bytes → is_tag_end s endings ≡ true
    → IsTagOf bytes endings
tag_at_end Open bytes endings l e = inl l
tag_at_end Closed bytes endings l e = inr (l, grind (arith, nat_tests))
tag_at_end Refused bytes endings l e = cc
tag_at_end Start bytes endings l e = cc
tag_at_end Opened bytes endings l e = cc
tag_at_end Name bytes endings l e = cc
tag_at_end Spaced bytes endings l e = cc
tag_at_end AttributeName bytes endings l e = cc
tag_at_end AfterName bytes endings l e = cc
tag_at_end BeforeValue bytes endings l e = cc
tag_at_end Unquoted bytes endings l e = cc
tag_at_end (Quoted q) bytes endings l e = cc
tag_at_end AfterValue bytes endings l e = cc
tag_at_end Slashed bytes endings l e = cc
tag_at_end Closing bytes endings l e = cc
tag_at_end ClosingName bytes endings l e = cc
tag_at_end ClosingSpaced bytes endings l e = cc
tag_at_end ClosingReturned bytes endings l e = cc
tag_at_end ClosingEnded bytes endings l e = cc

end_of_tag : (bytes : List ℕ) (endings : ℕ) → IsTagOf bytes endings
    → is_tag_end (state_after Start bytes) endings ≡ true
end_of_tag bytes endings (inl o) = ap (λ s. is_tag_end s endings) (open_whole bytes o)
end_of_tag bytes endings (inr (c, at_most_one)) =
    ap (λ s. is_tag_end s endings) (closing_whole bytes c) ∙ grind (arith, nat_tests)

-- bytes are a tag exactly where the scanner comes to its end with them
pub tag_exactly : (bytes : List ℕ) (endings : ℕ)
    → IsTagOf bytes endings ↔ (is_tag_end (state_after Start bytes) endings ≡ true)
tag_exactly bytes endings =
    (end_of_tag bytes endings, tag_at_end (state_after Start bytes) bytes endings (leads_run Start [] bytes refl))

-- a tag's end is final, and so no tag goes on after it
pub end_is_final : (s : TagState) (endings : ℕ) → is_tag_end s endings ≡ true → is_final s ≡ true
end_is_final Open endings e = refl
end_is_final Closed endings e = refl
end_is_final Refused endings e = cc
end_is_final Start endings e = cc
end_is_final Opened endings e = cc
end_is_final Name endings e = cc
end_is_final Spaced endings e = cc
end_is_final AttributeName endings e = cc
end_is_final AfterName endings e = cc
end_is_final BeforeValue endings e = cc
end_is_final Unquoted endings e = cc
end_is_final (Quoted q) endings e = cc
end_is_final AfterValue endings e = cc
end_is_final Slashed endings e = cc
end_is_final Closing endings e = cc
end_is_final ClosingName endings e = cc
end_is_final ClosingSpaced endings e = cc
end_is_final ClosingReturned endings e = cc
end_is_final ClosingEnded endings e = cc

pub final_goes_nowhere : (s : TagState) (x : ℕ) (xs : List ℕ) (endings : ℕ) → is_final s ≡ true
    → is_tag_end (state_after s (x ∷ xs)) endings ≡ false
final_goes_nowhere Open x xs endings e = ap (λ z. is_tag_end z endings) (refused_stays xs)
final_goes_nowhere Closed x xs endings e = ap (λ z. is_tag_end z endings) (refused_stays xs)
final_goes_nowhere Refused x xs endings e = ap (λ z. is_tag_end z endings) (refused_stays xs)
final_goes_nowhere Start x xs endings e = cc
final_goes_nowhere Opened x xs endings e = cc
final_goes_nowhere Name x xs endings e = cc
final_goes_nowhere Spaced x xs endings e = cc
final_goes_nowhere AttributeName x xs endings e = cc
final_goes_nowhere AfterName x xs endings e = cc
final_goes_nowhere BeforeValue x xs endings e = cc
final_goes_nowhere Unquoted x xs endings e = cc
final_goes_nowhere (Quoted q) x xs endings e = cc
final_goes_nowhere AfterValue x xs endings e = cc
final_goes_nowhere Slashed x xs endings e = cc
final_goes_nowhere Closing x xs endings e = cc
final_goes_nowhere ClosingName x xs endings e = cc
final_goes_nowhere ClosingSpaced x xs endings e = cc
final_goes_nowhere ClosingReturned x xs endings e = cc
final_goes_nowhere ClosingEnded x xs endings e = cc

-- a byte other than `>` ends no tag
module _ (b endings : ℕ) (other : (b == greater_than_sign) ≡ false) where
  abbrev EndsNone : TagState → Type 0
  EndsNone s = is_tag_end s endings ≡ false

  part_ends_none : EndsNone (after_part b)
  part_ends_none = elim (cases_Bool (is_white_space b)) [
    | inl w ↦ rw w refl
    | inr w ↦ elim (cases_Bool (b == slash)) [ inl k ↦ rw (w, k) refl | inr k ↦ rw (w, k, other) refl ]
  ]

  attribute_name_ends_none : EndsNone (after_attribute_name b)
  attribute_name_ends_none = elim (cases_Bool (is_white_space b)) [
    | inl w ↦ rw w refl
    | inr w ↦ elim (cases_Bool (b == equals_sign)) [ inl k ↦ rw (w, k) refl | inr k ↦ rw (w, k) (rw w at part_ends_none) ]
  ]

  before_value_ends_none : EndsNone (before_value b)
  before_value_ends_none = elim (cases_Bool (is_white_space b)) [
    | inl w ↦ rw w refl
    | inr w ↦ elim (cases_Bool (is_unquoted b)) [
      | inl u ↦ rw (w, u) refl
      | inr u ↦ elim (cases_Bool (b == apostrophe)) [
        | inl k ↦ rw (w, u, k) refl
        | inr k ↦ elim (cases_Bool (b == quotation_mark)) [ inl q ↦ rw (w, u, k, q) refl | inr q ↦ rw (w, u, k, q) refl ]
      ]
    ]
  ]

  closing_name_ends_none : EndsNone (after_closing_name b)
  closing_name_ends_none = elim (cases_Bool (is_white_space_in_line b)) [
    | inl w ↦ rw w refl
    | inr w ↦ elim (cases_Bool (b == carriage_return)) [
      | inl k ↦ rw (w, k) refl
      | inr k ↦ elim (cases_Bool (b == line_feed)) [ inl l ↦ rw (w, k, l) refl | inr l ↦ rw (w, k, l, other) refl ]
    ]
  ]

  other_ends_none : (s : TagState) → EndsNone (next_state s b)
  other_ends_none Start = elim (cases_Bool (b == less_than_sign)) [ inl k ↦ rw k refl | inr k ↦ rw k refl ]
  other_ends_none Opened =
      elim (cases_Bool (is_letter b)) [
        | inl l ↦ rw l refl
        | inr l ↦ elim (cases_Bool (b == slash)) [ inl k ↦ rw (l, k) refl | inr k ↦ rw (l, k) refl ]
      ]
  other_ends_none Name = elim (cases_Bool (is_tag_name_byte b)) [ inl k ↦ rw k refl | inr k ↦ rw k part_ends_none ]
  other_ends_none Spaced = elim (cases_Bool (is_attribute_start b)) [ inl k ↦ rw k refl | inr k ↦ rw k part_ends_none ]
  other_ends_none AttributeName =
      elim (cases_Bool (is_attribute_byte b)) [ inl k ↦ rw k refl | inr k ↦ rw k attribute_name_ends_none ]
  other_ends_none AfterName =
      elim (cases_Bool (is_attribute_start b)) [ inl k ↦ rw k refl | inr k ↦ rw k attribute_name_ends_none ]
  other_ends_none BeforeValue = before_value_ends_none
  other_ends_none Unquoted = elim (cases_Bool (is_unquoted b)) [ inl k ↦ rw k refl | inr k ↦ rw k part_ends_none ]
  other_ends_none (Quoted quote) = elim (cases_Bool (b == quote)) [ inl k ↦ rw k refl | inr k ↦ rw k refl ]
  other_ends_none AfterValue = part_ends_none
  other_ends_none Slashed = rw other refl
  other_ends_none Closing = elim (cases_Bool (is_letter b)) [ inl k ↦ rw k refl | inr k ↦ rw k refl ]
  other_ends_none ClosingName =
      elim (cases_Bool (is_tag_name_byte b)) [ inl k ↦ rw k refl | inr k ↦ rw k closing_name_ends_none ]
  other_ends_none ClosingSpaced = closing_name_ends_none
  other_ends_none ClosingReturned =
      elim (cases_Bool (is_white_space_in_line b || b == line_feed)) [ inl k ↦ rw k refl | inr k ↦ rw (k, other) refl ]
  other_ends_none ClosingEnded =
      elim (cases_Bool (is_white_space_in_line b)) [ inl k ↦ rw k refl | inr k ↦ rw (k, other) refl ]
  other_ends_none Open = refl
  other_ends_none Closed = refl
  other_ends_none Refused = refl

pub line_ending_ends_none : (s : TagState) (b endings : ℕ) → is_line_ending b ≡ true
    → is_tag_end (next_state s b) endings ≡ false
line_ending_ends_none s b endings e = other_ends_none b endings not_closing s
  where
    not_closing : (b == greater_than_sign) ≡ false
    not_closing = grind (arith, nat_tests)
