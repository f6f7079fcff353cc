-- The kind of the HTML block that begins at an offset is one, and the tests of a scan tell it.
use Rattle.std.proofs.Common.{ℕ, zero, suc, List, [], ◌∷◌, ◌++◌, ◌<◌, ◌≡◌, ◌⊎◌, ◌==◌, not, Bool, true, false, cond, IsTrue, Option, Some, None}
use Rattle.std.proofs.Common.{drop, refl, sym, ap, ◌∙◌, subst, arith, inl, inr}
use Rattle.std.specs.Prelude.{codes, nat_le, is_some}
use Rattle.std.proofs.lemmas.Bool.{cases_Bool, cases_lt, eqb-true, and_from, leb-true}
use Rattle.markdown_scanners_tree.specs.SomeExactly.{SomeExactly, IsOnly}
use Rattle.markdown_scanners_tree.specs.Bytes.{begins_with, is_letter}
use Rattle.markdown_scanners_tree.specs.declared.scanners.html_kinds.HtmlBlockKind.{HtmlBlockKind}
use Rattle.markdown_scanners_tree.specs.declared.scanners.html_kinds.HtmlBlockKind.TheVariants.{RawText, Comment, Processing, Declaration, Cdata, BlockName, TagAlone}
use Rattle.markdown_scanners_tree.specs.scanners.html_block.HtmlBlock.{IsBlockStart}
use Rattle.markdown_scanners_tree.specs.scanners.html_tag.HtmlTag.{IsTagAloneInLine, IsOpenTag, IsClosingTag}
use Rattle.markdown_scanners_tree.specs.scanners.html_kinds.HtmlKinds.{condition_number, begins_with_text, begins_with_raw_name, ends_raw_name, ends_tag_name, MeetsStart, IsHtmlBlockStart}
use Rattle.markdown_scanners_tree.specs.scanners.html_kinds.private.Marks.{declared_kind, marked_kind}
use Rattle.markdown_scanners_tree.specs.scanners.Interrupts.{IsInterruptingHtml}
use Rattle.markdown_scanners_tree.proofs.PrefixLemmas.{both_true}
use Rattle.markdown_scanners_tree.proofs.SomeExactlyLemmas.{IsOnly-found}

-- the kind of a number
kind_of : ℕ → HtmlBlockKind
kind_of zero = TagAlone
kind_of (suc zero) = RawText
kind_of (suc (suc zero)) = Comment
kind_of (suc (suc (suc zero))) = Processing
kind_of (suc (suc (suc (suc zero)))) = Declaration
kind_of (suc (suc (suc (suc (suc zero))))) = Cdata
kind_of (suc (suc (suc (suc (suc (suc zero)))))) = BlockName
kind_of (suc (suc (suc (suc (suc (suc (suc n))))))) = TagAlone

numbered : (k : HtmlBlockKind) → kind_of (condition_number k) ≡ k
unfolding kind_of
numbered RawText = refl
numbered Comment = refl
numbered Processing = refl
numbered Declaration = refl
numbered Cdata = refl
numbered BlockName = refl
numbered TagAlone = refl

-- a number is that of one kind at most
pub one_html_kind : (number : ℕ) (k k' : HtmlBlockKind) → condition_number k ≡ number → condition_number k' ≡ number
    → k ≡ k'
one_html_kind number k k' is is' = sym (numbered k) ∙ ap kind_of (is ∙ sym is') ∙ numbered k'

-- a text begins with an HTML block of one kind at most
pub one_html_block_start : (bytes : List ℕ) (k k' : HtmlBlockKind) → IsHtmlBlockStart bytes k
    → IsHtmlBlockStart bytes k' → k ≡ k'
one_html_block_start bytes k k' is is' = elim (cases_lt (condition_number k) (condition_number k')) [
  | inl below ↦ absurd (is'.lowest k below is.met)
  | inr low ↦ elim (cases_lt (condition_number k') (condition_number k)) [
    | inl above ↦ absurd (is.lowest k' above is'.met)
    | inr high ↦ one_html_kind (condition_number k') k k' (omega arith) refl
  ]
]

pub only_kind : (bytes : List ℕ) (answer : Option HtmlBlockKind) → SomeExactly (IsHtmlBlockStart bytes) answer
    → IsOnly (IsHtmlBlockStart bytes) answer
only_kind bytes = IsOnly-found (IsHtmlBlockStart bytes) (one_html_block_start bytes)

-- Each kind begins with `<`.
abbrev opens : List ℕ → Type 0
opens bytes = begins_with_text (codes "<") bytes ≡ true

tag_opens : (tag rest : List ℕ) → IsOpenTag tag ⊎ IsClosingTag tag → opens (tag ++ rest)
tag_opens tag rest (inl t) = ap (λ z. begins_with_text (codes "<") (z ++ rest)) t.parts
tag_opens tag rest (inr t) = ap (λ z. begins_with_text (codes "<") (z ++ rest)) t.parts

text_opens : (text bytes : List ℕ) → begins_with_text (60 ∷ text) bytes ≡ true → opens bytes
text_opens text [] h = cc
text_opens text (b ∷ bs) h = and_from _ _ (both_true _ _ h).0 refl

met_opens : (k : HtmlBlockKind) (bytes : List ℕ) → MeetsStart k bytes → opens bytes
met_opens RawText bytes h = (both_true _ _ h).0
met_opens Comment bytes h = text_opens (codes "!--") bytes h
met_opens Processing bytes h = text_opens (codes "?") bytes h
met_opens Declaration bytes h =
    text_opens (codes "!") bytes (both_true (begins_with_text (codes "<!") bytes) (begins_with is_letter (drop 2 bytes)) h).0
met_opens Cdata bytes h = text_opens (codes "![CDATA[") bytes h
met_opens BlockName bytes h = h.0
met_opens TagAlone bytes h =
    subst opens (sym h.1.parts) (tag_opens h.1.tag h.1.rest h.1.tag_in_line.0)

pub none_unopened : (bytes : List ℕ) → begins_with_text (codes "<") bytes ≡ false → (k : HtmlBlockKind)
    → ¬ IsHtmlBlockStart bytes k
none_unopened bytes other k is = let opened = met_opens k bytes is.met in cc

-- no number is below 1
no_lower : {P : Type 0} (k : HtmlBlockKind) → condition_number k < 1 → P
no_lower RawText low = absurd (omega arith)
no_lower Comment low = absurd (omega arith)
no_lower Processing low = absurd (omega arith)
no_lower Declaration low = absurd (omega arith)
no_lower Cdata low = absurd (omega arith)
no_lower BlockName low = absurd (omega arith)
no_lower TagAlone low = absurd (omega arith)

-- A mark tells its kind.
processing_start : (bs : List ℕ) → IsHtmlBlockStart (60 ∷ 63 ∷ bs) Processing
processing_start bs = record { met = refl; lowest = lower }
  where
    lower : (k : HtmlBlockKind) → condition_number k < 3 → ¬ MeetsStart k (60 ∷ 63 ∷ bs)
    lower RawText low h = cc
    lower Comment low h = cc
    lower Processing low h = omega arith
    lower Declaration low h = omega arith
    lower Cdata low h = omega arith
    lower BlockName low h = omega arith
    lower TagAlone low h = omega arith

comment_start : (bs : List ℕ) → begins_with_text (codes "--") bs ≡ true → IsHtmlBlockStart (60 ∷ 33 ∷ bs) Comment
comment_start bs is = record { met = is; lowest = lower }
  where
    lower : (k : HtmlBlockKind) → condition_number k < 2 → ¬ MeetsStart k (60 ∷ 33 ∷ bs)
    lower RawText low h = cc
    lower Comment low h = omega arith
    lower Processing low h = omega arith
    lower Declaration low h = omega arith
    lower Cdata low h = omega arith
    lower BlockName low h = omega arith
    lower TagAlone low h = omega arith

declaration_start : (bs : List ℕ) → begins_with_text (codes "--") bs ≡ false → begins_with is_letter bs ≡ true
    → IsHtmlBlockStart (60 ∷ 33 ∷ bs) Declaration
declaration_start bs other is = record { met = is; lowest = lower }
  where
    lower : (k : HtmlBlockKind) → condition_number k < 4 → ¬ MeetsStart k (60 ∷ 33 ∷ bs)
    lower RawText low h = cc
    lower Comment low h = cc
    lower Processing low h = cc
    lower Declaration low h = omega arith
    lower Cdata low h = omega arith
    lower BlockName low h = omega arith
    lower TagAlone low h = omega arith

cdata_start : (bs : List ℕ) → begins_with_text (codes "--") bs ≡ false → begins_with is_letter bs ≡ false
    → begins_with_text (codes "[CDATA[") bs ≡ true → IsHtmlBlockStart (60 ∷ 33 ∷ bs) Cdata
cdata_start bs other none is = record { met = is; lowest = lower }
  where
    lower : (k : HtmlBlockKind) → condition_number k < 5 → ¬ MeetsStart k (60 ∷ 33 ∷ bs)
    lower RawText low h = cc
    lower Comment low h = cc
    lower Processing low h = cc
    lower Declaration low h = cc
    lower Cdata low h = omega arith
    lower BlockName low h = omega arith
    lower TagAlone low h = omega arith

declared_start : (bs : List ℕ) (k : HtmlBlockKind) → declared_kind bs ≡ Some k → IsHtmlBlockStart (60 ∷ 33 ∷ bs) k
declared_start bs k is = elim (cases_Bool (begins_with_text (codes "--") bs)) [
  | inl comment ↦ (let some : Some Comment ≡ Some k = sym (rw comment refl) ∙ is in
      let same : Comment ≡ k = cc in
      subst (IsHtmlBlockStart (60 ∷ 33 ∷ bs)) same (comment_start bs comment))
  | inr other ↦ elim (cases_Bool (begins_with is_letter bs)) [
    | inl letter ↦ (let some : Some Declaration ≡ Some k = sym (rw (other, letter) refl) ∙ is in
        let same : Declaration ≡ k = cc in
        subst (IsHtmlBlockStart (60 ∷ 33 ∷ bs)) same (declaration_start bs other letter))
    | inr none ↦ elim (cases_Bool (begins_with_text (codes "[CDATA[") bs)) [
      | inl cdata ↦ (let some : Some Cdata ≡ Some k = sym (rw (other, none, cdata) refl) ∙ is in
          let same : Cdata ≡ k = cc in
          subst (IsHtmlBlockStart (60 ∷ 33 ∷ bs)) same (cdata_start bs other none cdata))
      | inr nothing ↦ absurd (let gone : None ≡ Some k = sym (rw (other, none, nothing) refl) ∙ is in cc)
    ]
  ]
]

pub marked_start : (rest : List ℕ) (k : HtmlBlockKind) → marked_kind rest ≡ Some k → IsHtmlBlockStart (60 ∷ rest) k
marked_start [] k is = cc
marked_start (m ∷ bs) k is = elim (cases_Bool (m == 63)) [
  | inl question ↦ (let some : Some Processing ≡ Some k = sym (rw question refl) ∙ is in
      let same : Processing ≡ k = cc in
      subst (λ z. IsHtmlBlockStart (60 ∷ z ∷ bs) k) (sym (eqb-true m 63 question))
      (subst (IsHtmlBlockStart (60 ∷ 63 ∷ bs)) same (processing_start bs)))
  | inr other ↦ elim (cases_Bool (m == 33)) [
    | inl exclaims ↦ (let declared : declared_kind bs ≡ Some k = sym (rw (other, exclaims) refl) ∙ is in
        subst (λ z. IsHtmlBlockStart (60 ∷ z ∷ bs) k) (sym (eqb-true m 33 exclaims)) (declared_start bs k declared))
    | inr none ↦ absurd (let gone : None ≡ Some k = sym (rw (other, none) refl) ∙ is in cc)
  ]
]

-- Where no mark tells a kind, none of 2 to 5 begins.
not_declared : (bs : List ℕ) → declared_kind bs ≡ None
    → (begins_with_text (codes "--") bs ≡ false) × (begins_with is_letter bs ≡ false)
    × (begins_with_text (codes "[CDATA[") bs ≡ false)
not_declared bs none = by (begins_with_text (codes "--") bs) (begins_with is_letter bs)
    (begins_with_text (codes "[CDATA[") bs) none
  where
    by : (a b c : Bool) → cond a (Some Comment) (cond b (Some Declaration) (cond c (Some Cdata) None)) ≡ None
        → (a ≡ false) × (b ≡ false) × (c ≡ false)
    by true b c h = cc
    by false true c h = cc
    by false false true h = cc
    by false false false h = (refl, refl, refl)

unmarked : (m : ℕ) (bs : List ℕ) → marked_kind (m ∷ bs) ≡ None
    → ((m == 63) ≡ false) × ((m == 33) ≡ true → declared_kind bs ≡ None)
unmarked m bs none = by (m == 63) (m == 33) none
  where
    by : (a b : Bool) → cond a (Some Processing) (cond b (declared_kind bs) None) ≡ None
        → (a ≡ false) × (b ≡ true → declared_kind bs ≡ None)
    by true b h = cc
    by false true h = (refl, λ _. h)
    by false false h = (refl, λ t. cc)

module _ (rest : List ℕ) (none : marked_kind rest ≡ None) where
  no_mark : (k : HtmlBlockKind) → condition_number k < 6 → ¬ (condition_number k ≡ 1) → ¬ MeetsStart k (60 ∷ rest)
  no_mark = by rest none
    where
      by : (rest : List ℕ) → marked_kind rest ≡ None → (k : HtmlBlockKind) → condition_number k < 6
          → ¬ (condition_number k ≡ 1) → ¬ MeetsStart k (60 ∷ rest)
      by rest none RawText low other h = other refl
      by rest none BlockName low other h = omega arith
      by rest none TagAlone low other h = omega arith
      by [] none Comment low other h = cc
      by [] none Processing low other h = cc
      by [] none Declaration low other h = cc
      by [] none Cdata low other h = cc
      by (m ∷ bs) none Comment low other h =
          let mark = both_true _ _ h in
          let gone = not_declared bs ((unmarked m bs none).1 mark.0) in
          let is : begins_with_text (codes "--") bs ≡ true = mark.1 in
          let not_is = gone.0 in
          cc
      by (m ∷ bs) none Processing low other h =
          let mark = both_true _ _ h in
          let is : (m == 63) ≡ true = mark.0 in
          let not_is = (unmarked m bs none).0 in
          cc
      by (m ∷ bs) none Declaration low other h =
          let parts = both_true _ _ h in
          let mark : (m == 33) ≡ true = (both_true _ _ parts.0).0 in
          let gone = not_declared bs ((unmarked m bs none).1 mark) in
          let is : begins_with is_letter bs ≡ true = parts.1 in
          let not_is = gone.1 in
          cc
      by (m ∷ bs) none Cdata low other h =
          let mark = both_true _ _ h in
          let gone = not_declared bs ((unmarked m bs none).1 mark.0) in
          let is : begins_with_text (codes "[CDATA[") bs ≡ true = mark.1 in
          let not_is = gone.2 in
          cc

  -- the four answers of a scan for the kinds of tags
  pub raw_start : begins_with_raw_name ends_raw_name rest ≡ true → IsHtmlBlockStart (60 ∷ rest) RawText
  raw_start raw = record { met = raw; lowest = λ k low. no_lower k low }

  module _ (no_raw : begins_with_raw_name ends_raw_name rest ≡ false) where
    lower : (k : HtmlBlockKind) → condition_number k < 6 → ¬ MeetsStart k (60 ∷ rest)
    lower RawText low h = let raw : begins_with_raw_name ends_raw_name rest ≡ true = h in cc
    lower Comment low h = no_mark Comment low (λ e. omega arith) h
    lower Processing low h = no_mark Processing low (λ e. omega arith) h
    lower Declaration low h = no_mark Declaration low (λ e. omega arith) h
    lower Cdata low h = no_mark Cdata low (λ e. omega arith) h
    lower BlockName low h = omega arith
    lower TagAlone low h = omega arith

    pub name_start : IsBlockStart rest → IsHtmlBlockStart (60 ∷ rest) BlockName
    name_start named = record { met = (refl, named); lowest = lower }

    module _ (no_name : ¬ IsBlockStart rest) where
      lower_or_name : (k : HtmlBlockKind) → condition_number k < 7 → ¬ MeetsStart k (60 ∷ rest)
      lower_or_name RawText low h = lower RawText (omega arith) h
      lower_or_name Comment low h = lower Comment (omega arith) h
      lower_or_name Processing low h = lower Processing (omega arith) h
      lower_or_name Declaration low h = lower Declaration (omega arith) h
      lower_or_name Cdata low h = lower Cdata (omega arith) h
      lower_or_name BlockName low h = no_name h.1
      lower_or_name TagAlone low h = omega arith

      pub alone_start : (n : ℕ) → IsTagAloneInLine (60 ∷ rest) n → begins_with_raw_name ends_tag_name rest ≡ false
          → IsHtmlBlockStart (60 ∷ rest) TagAlone
      alone_start n alone other = record { met = (n, alone, rw other refl); lowest = lower_or_name }

      pub no_start : ¬ MeetsStart TagAlone (60 ∷ rest) → (k : HtmlBlockKind) → ¬ IsHtmlBlockStart (60 ∷ rest) k
      no_start not_alone RawText is = lower_or_name RawText (omega arith) is.met
      no_start not_alone Comment is = lower_or_name Comment (omega arith) is.met
      no_start not_alone Processing is = lower_or_name Processing (omega arith) is.met
      no_start not_alone Declaration is = lower_or_name Declaration (omega arith) is.met
      no_start not_alone Cdata is = lower_or_name Cdata (omega arith) is.met
      no_start not_alone BlockName is = lower_or_name BlockName (omega arith) is.met
      no_start not_alone TagAlone is = not_alone is.met

      -- none of the kinds that interrupt a paragraph
      pub no_interruption : ¬ IsInterruptingHtml (60 ∷ rest)
      no_interruption (k, is, low) = lower_or_name k (let most = leb-true (condition_number k) 6 low in omega arith) is.met

-- a mark tells a kind that interrupts a paragraph
marked_low : (rest : List ℕ) (k : HtmlBlockKind) → marked_kind rest ≡ Some k → IsTrue (nat_le (condition_number k) 6)
marked_low rest RawText is = refl
marked_low rest Comment is = refl
marked_low rest Processing is = refl
marked_low rest Declaration is = refl
marked_low rest Cdata is = refl
marked_low rest BlockName is = refl
marked_low [] TagAlone is = cc
marked_low (m ∷ bs) TagAlone is = by (m == 63) (m == 33) (begins_with_text (codes "--") bs) (begins_with is_letter bs)
    (begins_with_text (codes "[CDATA[") bs) is
  where
    by : (question exclaims comment letter cdata : Bool)
        → cond question (Some Processing) (cond exclaims (cond comment (Some Comment) (cond letter (Some Declaration) (cond cdata (Some Cdata) None))) None)
        ≡ Some TagAlone → IsTrue (nat_le 7 6)
    by true exclaims comment letter cdata h = cc
    by false false comment letter cdata h = cc
    by false true true letter cdata h = cc
    by false true false true cdata h = cc
    by false true false false true h = cc
    by false true false false false h = cc

pub unmarked_kind : (mark : Option HtmlBlockKind) → is_some mark ≡ false → mark ≡ None
unmarked_kind None none = refl
unmarked_kind (Some k) none = cc

pub marked_interruption : (rest : List ℕ) → is_some (marked_kind rest) ≡ true → IsInterruptingHtml (60 ∷ rest)
marked_interruption rest some = by (marked_kind rest) refl some
  where
    by : (mark : Option HtmlBlockKind) → marked_kind rest ≡ mark → is_some mark ≡ true → IsInterruptingHtml (60 ∷ rest)
    by None is some = cc
    by (Some k) is some = (k, marked_start rest k is, marked_low rest k is)

-- what stands after the `<` that was found
pub after_opener : (bytes rest : List ℕ) → begins_with_text (codes "<") bytes ≡ true → rest ≡ drop 1 bytes
    → bytes ≡ 60 ∷ rest
after_opener [] rest opened is = cc
after_opener (b ∷ bs) rest opened is =
    let first : b ≡ 60 = eqb-true b 60 (both_true _ _ opened).0 in
    ap (λ z. z ∷ bs) first ∙ ap (λ z. 60 ∷ z) (sym is)

pub not_false : {P : Type 0} {t : Bool} → t ≡ false → IsTrue t → P
not_false none some = cc

pub named_raw : {t : Bool} → t ≡ true → ¬ IsTrue (not t)
named_raw named other = let turned = ap not named in cc
