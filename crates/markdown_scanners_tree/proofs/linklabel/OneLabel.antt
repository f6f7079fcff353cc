-- A text has one label at most, where its handler is steady.
use Rattle.std.proofs.Common.{ℕ, zero, suc, Bool, true, false, ◌&&◌, ◌==◌, List, [], ◌∷◌, ◌++◌, ◌+◌, ◌≡◌, ◌⊎◌, inl, inr, Some, None, Option, drop}
use Rattle.std.proofs.Common.{refl, sym, ap, ◌∙◌, subst, arith}
use Rattle.std.specs.List.{list_any}
use Rattle.std.specs.Fn.{Shared}
use Rattle.std.specs.Str.{IsUtf8, IsCharBoundary}
use Rattle.std.proofs.lemmas.Bool.{cases_Bool, or_parts, eqb-true}
use Rattle.std.proofs.lemmas.Str.{IsUtf8-drop, IsCharBoundary-from_rest}
use denote.Ref.{Bor}
use Rattle.markdown_scanners_tree.specs.Ascii.{line_feed, carriage_return, left_bracket, backslash, right_bracket}
use Rattle.markdown_scanners_tree.specs.Bytes.{is_line_ending, is_punctuation}
use Rattle.markdown_scanners_tree.specs.Handler.{Skips, IsSteadyAtChars, IsSteadyAtAscii}
use Rattle.markdown_scanners_tree.specs.Kept.{KeptByte, kept_text, line_len, AreSkips}
use Rattle.markdown_scanners_tree.specs.linklabel.Label.{kept_units, bracketed, preceded, Label, label_between, label_of, IsLabel}
use Rattle.markdown_scanners_tree.specs.linklabel.private.NextPart.{IsEnding}
use Rattle.markdown_scanners_tree.proofs.OneKeptText.{Extends, one_kept_text}
use Rattle.markdown_scanners_tree.proofs.linklabel.SourceSteps.{cut_after_ending}

-- what comes later changes no brackets that were found
abbrev Stays : List (List KeptByte) → List (List KeptByte) → Type 0
Stays units more = (bracketed units ≡ None) ⊎ (bracketed more ≡ bracketed units)

after_byte : (k : KeptByte) (units more : List (List KeptByte)) → Stays units more
    → Stays ((k ∷ []) ∷ units) ((k ∷ []) ∷ more)
after_byte k units more stays = elim (cases_Bool (k.byte == right_bracket)) [
  | inl closes ↦ inr (rw closes refl)
  | inr unclosed ↦ elim (cases_Bool (k.byte == left_bracket)) [
    | inl opens ↦ inl (rw (unclosed, opens) refl)
    | inr unopened ↦ elim stays [
      | inl none ↦ inl (rw (unclosed, unopened) (ap (preceded (k ∷ [])) none))
      | inr same ↦ inr (rw (unclosed, unopened) (ap (preceded (k ∷ [])) same))
    ]
  ]
]

after_escape : (k l : KeptByte) (units more : List (List KeptByte)) → Stays units more
    → Stays ((k ∷ l ∷ []) ∷ units) ((k ∷ l ∷ []) ∷ more)
after_escape k l units more (inl none) = inl (ap (preceded (k ∷ l ∷ [])) none)
after_escape k l units more (inr same) = inr (ap (preceded (k ∷ l ∷ [])) same)

last_byte : (k : KeptByte) (more : List KeptByte) → Stays ((k ∷ []) ∷ []) (kept_units (k ∷ more))
last_byte k [] = inr refl
last_byte k (m ∷ more) = elim (cases_Bool (k.byte == right_bracket)) [
  | inl closes ↦ (
      let plain : (k.byte == backslash && is_punctuation m.byte) ≡ false =
      rw (eqb-true k.byte right_bracket closes) refl in
      inr (rw (plain, closes) refl)
      )
  | inr unclosed ↦ elim (cases_Bool (k.byte == left_bracket)) [
    | inl opens ↦ inl (rw (unclosed, opens) refl)
    | inr unopened ↦ inl (rw (unclosed, unopened) refl)
  ]
]

brackets_stay : (ks more : List KeptByte) → Stays (kept_units ks) (kept_units (ks ++ more))
brackets_stay [] more = inl refl
brackets_stay (k ∷ []) more = last_byte k more
brackets_stay (k ∷ l ∷ ks) more = elim (cases_Bool (k.byte == backslash && is_punctuation l.byte)) [
  | inl escapes ↦ rw escapes (after_escape k l (kept_units ks) (kept_units (ks ++ more)) (brackets_stay ks more))
  | inr single ↦
      rw single (after_byte k (kept_units (l ∷ ks)) (kept_units (l ∷ (ks ++ more))) (brackets_stay (l ∷ ks) more))
]

-- and so no label
label_stays : (t : Bool) (ks more : List KeptByte) (label : Label) → label_of t ks ≡ Some label
    → label_of t (ks ++ more) ≡ Some label
label_stays t ks more label is = elim (brackets_stay ks more) [
  | inl none ↦ absurd (let lost : Some label ≡ None = sym is ∙ ap (label_between t) none in cc)
  | inr same ↦ ap (label_between t) same ∙ is
]

pub same_label : (t : Bool) (ks ls : List KeptByte) (label other : Label) → Extends ls ks ⊎ Extends ks ls
    → label_of t ks ≡ Some label → label_of t ls ≡ Some other → label ≡ other
same_label t ks ls label other (inl more) is is' =
    let both : Some label ≡ Some other =
    sym (label_stays t ks more.0 label is) ∙ (ap (label_of t) (sym more.1) ∙ is') in
    cc
same_label t ks ls label other (inr more) is is' =
    let both : Some label ≡ Some other =
    sym is ∙ (ap (label_of t) more.1 ∙ label_stays t ls more.0 other is') in
    cc

-- the line ending of the first line
first_ending : (source : List ℕ) → list_any is_line_ending source ≡ true
    → (ix len : ℕ) × IsEnding (drop ix source) len × (line_len source ≡ ix + len)
first_ending [] some = cc
first_ending (b ∷ bs) some = elim (cases_Bool (is_line_ending b)) [
  | inl ends ↦ (
    0,
    line_len (b ∷ bs),
    record { byte = b; others = bs; parts = refl; ends = ends; takes = refl },
    omega arith,
  )
  | inr plain ↦ (
      let others = or_parts (b == line_feed) (b == carriage_return) plain in
      let later = first_ending bs (rw plain at some) in
      let long : line_len (b ∷ bs) ≡ suc (line_len bs) = rw (others.0, others.1) refl in
      (suc later.0, later.1, later.2, omega (arith, long, later.3))
      )
]

-- the skip is an answer for this text
abbrev SkipsText : {F : Type 0} → Shared F (Bor (List ℕ) × Unit {0}) (Option ℕ) → F → List ℕ → ℕ → Type 0
SkipsText g f rest skip = IsUtf8 rest × Skips g f rest skip

module _ {F : Type 0} (g : Shared F (Bor (List ℕ) × Unit {0}) (Option ℕ)) (f : F) (steady : IsSteadyAtChars g f) where
  one_skip : (rest : List ℕ) (m n : ℕ) → SkipsText g f rest m → SkipsText g f rest n → m ≡ n
  one_skip rest m n answer other =
      let same : Some m ≡ Some n = steady.one_answer rest (Some m) (Some n) answer.0 answer.1 other.1 in
      cc

  cut_after : (text : List ℕ) (offset skip : ℕ) → IsUtf8 text → IsCharBoundary text offset
      → Skips g f (drop offset text) skip → IsCharBoundary text (offset + skip)
  cut_after text offset zero utf8 cut skips = subst (IsCharBoundary text) (omega arith) cut
  cut_after text offset (suc skip) utf8 cut skips =
      IsCharBoundary-from_rest text offset (suc skip) cut.0
      (steady.inside (drop offset text) (suc skip) (IsUtf8-drop text offset utf8 cut) skips (omega arith))

  skips_text : (text skips : List ℕ) → IsUtf8 text → AreSkips (Skips g f) text skips → AreSkips (SkipsText g f) text skips
  skips_text text [] utf8 are = tt
  skips_text text (skip ∷ skips) utf8 are =
      let ending = first_ending text are.0 in
      let cut : IsCharBoundary text (line_len text) =
      subst (IsCharBoundary text) (sym ending.3) (cut_after_ending text ending.0 ending.1 utf8 ending.2) in
      let after = cut_after text (line_len text) skip utf8 cut are.1 in
      let later = skips_text (drop (line_len text + skip) text) skips
      (IsUtf8-drop text (line_len text + skip) utf8 after) are.2 in
      (are.0, (IsUtf8-drop text (line_len text) utf8 cut, are.1), later)

  -- the label of a text: the bytes that it takes, its text, and whether it stands in the text as it is
  pub one_label : (text : List ℕ) (is_in_table : Bool) (label other : Label) → IsUtf8 text
      → IsLabel (Skips g f) text is_in_table label → IsLabel (Skips g f) text is_in_table other → label ≡ other
  one_label text is_in_table label other utf8 is is' =
      same_label is_in_table (kept_text text is.skips) (kept_text text is'.skips) label other
      (one_kept_text (SkipsText g f) one_skip 0 text is.skips is'.skips (skips_text text is.skips utf8 is.answered)
      (skips_text text is'.skips utf8 is'.answered)) is.label_is is'.label_is

-- and so have bytes that may be anything after it
pub one_label_in_bytes : {F : Type 0} (g : Shared F (Bor (List ℕ) × Unit {0}) (Option ℕ)) (f : F) → IsSteadyAtAscii g f
    → (bytes : List ℕ) (is_in_table : Bool) (label other : Label) → IsLabel (Skips g f) bytes is_in_table label
    → IsLabel (Skips g f) bytes is_in_table other → label ≡ other
one_label_in_bytes g f steady bytes is_in_table label other is is' =
    same_label is_in_table (kept_text bytes is.skips) (kept_text bytes is'.skips) label other
    (one_kept_text (Skips g f) one 0 bytes is.skips is'.skips is.answered is'.answered) is.label_is is'.label_is
  where
    one : (rest : List ℕ) (m n : ℕ) → Skips g f rest m → Skips g f rest n → m ≡ n
    one rest m n answer other = (let same : Some m ≡ Some n = steady.one_answer rest (Some m) (Some n) answer other in cc)
