-- In each state in a closing tag, the state after a byte tells what is read with that byte.
use Rattle.std.proofs.Common.{ℕ, List, [], ◌∷◌, ◌++◌, ◌≡◌, Bool, true, false, ◌||◌, ◌==◌, refl, sym, ap, ◌∙◌, append_assoc, inl, inr}
use Rattle.std.specs.List.{AllPass}
use Rattle.std.proofs.lemmas.List.{append-nil}
use Rattle.std.proofs.lemmas.Bool.{eqb-true}
use Rattle.markdown_scanners_tree.proofs.PassLemmas.{AllPass-nil, AllPass-one, AllPass-snoc}
use Rattle.markdown_scanners_tree.specs.Ascii.{line_feed, carriage_return, slash, less_than_sign, greater_than_sign}
use Rattle.markdown_scanners_tree.specs.Bytes.{is_letter, is_white_space_in_line}
use Rattle.markdown_scanners_tree.specs.scanners.html_tag.HtmlTag.{IsTagName, IsClosingTag, IsLineEndingOrNone, is_tag_name_byte}
use Rattle.markdown_scanners_tree.specs.scanners.tag_state.private.TagMachine.{next_state}
use Rattle.markdown_scanners_tree.specs.declared.scanners.tag_state.TagState.TheVariants.{Closing, ClosingName, ClosingSpaced, ClosingReturned, ClosingEnded, Closed}
use Rattle.markdown_scanners_tree.proofs.scanners.tag_state.TagReading.{choose, name_more, Leads}

pub leads_closing : (b : ℕ) (pre : List ℕ) → Leads Closing pre → Leads (next_state Closing b) (pre ++ b ∷ [])
leads_closing b pre e = choose _ ClosingName _ (λ s. Leads s (pre ++ b ∷ []))
    (λ t. (b ∷ [], ap (λ z. z ++ b ∷ []) e, (t, AllPass-nil is_tag_name_byte)))
    (λ t. tt)

-- the end of a closing tag
closed : (pre name before ending after : List ℕ) (b : ℕ)
    → pre ≡ less_than_sign ∷ slash ∷ (name ++ (before ++ (ending ++ after))) → IsTagName name
    → AllPass is_white_space_in_line before → IsLineEndingOrNone ending → AllPass is_white_space_in_line after
    → b ≡ greater_than_sign → IsClosingTag (pre ++ b ∷ [])
closed pre name before ending after b e n s l a k =
    record {
      name = name;
      before = before;
      ending = ending;
      after = after;
      parts = ap (λ z. z ++ b ∷ []) e ∙ simp
          append_assoc (ap (λ z. less_than_sign ∷ slash ∷ (name ++ (before ++ (ending ++ (after ++ z ∷ []))))) k);
      named =
          n;
      spaced = s;
      ended = l;
      spaced_after = a;
    }

pub leads_closing_name : (b : ℕ) (pre : List ℕ) → Leads ClosingName pre → Leads (next_state ClosingName b) (pre ++ b ∷ [])
leads_closing_name b pre (name, e, n) = choose _ ClosingName _ (λ s. Leads s (pre ++ b ∷ []))
    (λ t. (name ++ b ∷ [], ap (λ z. z ++ b ∷ []) e, name_more is_letter is_tag_name_byte name b n t))
    (λ t. choose _ ClosingSpaced _ (λ s. Leads s (pre ++ b ∷ []))
    (λ w. (name, b ∷ [], ap (λ z. z ++ b ∷ []) e, n, AllPass-one is_white_space_in_line b w))
    (λ w. choose _ ClosingReturned _ (λ s. Leads s (pre ++ b ∷ []))
    (λ k. (
      name,
      [],
      ap (λ z. z ++ b ∷ []) e ∙ ap (λ z. less_than_sign ∷ slash ∷ (name ++ z ∷ [])) (eqb-true b carriage_return k),
      n,
      AllPass-nil is_white_space_in_line,
    ))
    (λ k. choose _ ClosingEnded _ (λ s. Leads s (pre ++ b ∷ []))
    (λ k. (
      name,
      [],
      line_feed ∷ [],
      [],
      ap (λ z. z ++ b ∷ []) e ∙ ap (λ z. less_than_sign ∷ slash ∷ (name ++ z ∷ [])) (eqb-true b line_feed k),
      n,
      AllPass-nil is_white_space_in_line,
      inr (inl refl),
      AllPass-nil is_white_space_in_line,
    ))
    (λ k. choose _ Closed _ (λ s. Leads s (pre ++ b ∷ []))
    (λ k. closed pre name [] [] [] b (e ∙ ap (λ z. less_than_sign ∷ slash ∷ z) (sym (append-nil name))) n
    (AllPass-nil is_white_space_in_line) (inl refl) (AllPass-nil is_white_space_in_line)
    (eqb-true b greater_than_sign k))
    (λ k. tt)))))

pub leads_closing_spaced : (b : ℕ) (pre : List ℕ) → Leads ClosingSpaced pre
    → Leads (next_state ClosingSpaced b) (pre ++ b ∷ [])
leads_closing_spaced b pre (name, before, e, n, s) = choose _ ClosingSpaced _ (λ s. Leads s (pre ++ b ∷ []))
    (λ w. (
      name,
      before ++ b ∷ [],
      ap (λ z. z ++ b ∷ []) e ∙ ap (λ z. less_than_sign ∷ slash ∷ z) (append_assoc name before (b ∷ [])),
      n,
      AllPass-snoc is_white_space_in_line before b s w,
    ))
    (λ w. choose _ ClosingReturned _ (λ s. Leads s (pre ++ b ∷ []))
    (λ k. (
      name,
      before,
      ap (λ z. z ++ b ∷ []) e ∙ ap (λ z. less_than_sign ∷ slash ∷ z)
          (append_assoc name before (b ∷ []) ∙ ap (λ z. name ++ (before ++ z ∷ [])) (eqb-true b carriage_return k)),
      n,
      s,
    ))
    (λ k. choose _ ClosingEnded _ (λ s. Leads s (pre ++ b ∷ []))
    (λ k. (
      name,
      before,
      line_feed ∷ [],
      [],
      ap (λ z. z ++ b ∷ []) e ∙ ap (λ z. less_than_sign ∷ slash ∷ z)
          (append_assoc name before (b ∷ []) ∙ ap (λ z. name ++ (before ++ z ∷ [])) (eqb-true b line_feed k)),
      n,
      s,
      inr (inl refl),
      AllPass-nil is_white_space_in_line,
    ))
    (λ k. choose _ Closed _ (λ s. Leads s (pre ++ b ∷ []))
    (λ k. closed pre name before [] [] b (e ∙ ap (λ z. less_than_sign ∷ slash ∷ (name ++ z)) (sym (append-nil before)))
    n s (inl refl) (AllPass-nil is_white_space_in_line) (eqb-true b greater_than_sign k))
    (λ k. tt))))

pub leads_closing_ended : (b : ℕ) (pre : List ℕ) → Leads ClosingEnded pre
    → Leads (next_state ClosingEnded b) (pre ++ b ∷ [])
leads_closing_ended b pre (name, before, ending, after, e, n, s, l, a) =
    choose _ ClosingEnded _ (λ s. Leads s (pre ++ b ∷ []))
    (λ w. (
      name,
      before,
      ending,
      after ++ b ∷ [],
      ap (λ z. z ++ b ∷ []) e ∙ simp append_assoc,
      n,
      s,
      l,
      AllPass-snoc is_white_space_in_line after b a w,
    ))
    (λ w. choose _ Closed _ (λ s. Leads s (pre ++ b ∷ []))
    (λ k. closed pre name before ending after b e n s l a (eqb-true b greater_than_sign k))
    (λ k. tt))

-- after CR: a LF belongs to the line ending
returned_more : (b : ℕ) (pre : List ℕ) → Leads ClosingReturned pre → (t : Bool) → is_white_space_in_line b ≡ t
    → (t || (b == line_feed)) ≡ true → Leads ClosingEnded (pre ++ b ∷ [])
returned_more b pre (name, before, e, n, s) true w h = (
  name,
  before,
  carriage_return ∷ [],
  b ∷ [],
  ap (λ z. z ++ b ∷ []) e ∙ simp append_assoc,
  n,
  s,
  inr (inr (inl refl)),
  AllPass-one is_white_space_in_line b w,
)
returned_more b pre (name, before, e, n, s) false w h = (
  name,
  before,
  carriage_return ∷ line_feed ∷ [],
  [],
  ap (λ z. z ++ b ∷ []) e ∙ simp append_assoc
      (ap (λ z. less_than_sign ∷ slash ∷ (name ++ (before ++ (carriage_return ∷ z ∷ [])))) (eqb-true b line_feed h)),
  n,
  s,
  inr (inr (inr refl)),
  AllPass-nil is_white_space_in_line,
)

pub leads_closing_returned : (b : ℕ) (pre : List ℕ) → Leads ClosingReturned pre
    → Leads (next_state ClosingReturned b) (pre ++ b ∷ [])
leads_closing_returned b pre r = choose _ ClosingEnded _ (λ s. Leads s (pre ++ b ∷ []))
    (λ h. returned_more b pre r (is_white_space_in_line b) refl h)
    (λ h. choose _ Closed _ (λ s. Leads s (pre ++ b ∷ []))
    (λ k. closed pre r.0 r.1 (carriage_return ∷ []) [] b r.2 r.3 r.4 (inr (inr (inl refl)))
    (AllPass-nil is_white_space_in_line) (eqb-true b greater_than_sign k))
    (λ k. tt))
