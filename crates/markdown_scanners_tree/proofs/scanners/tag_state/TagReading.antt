-- What the bytes read so far are, in each state of the tag scanner: an open tag's name, its attributes and the part of
-- the next one that is read, or a closing tag's parts. And how a reading goes on: a byte more in its last part, an
-- attribute that is whole, a tag that is whole.
use Rattle.std.proofs.Common.{ℕ, List, [], ◌∷◌, ◌++◌, ◌≡◌, Bool, true, false, cond, not, ◌&&◌, ◌==◌, refl, sym, ap, ◌∙◌, subst, append_assoc, inl, inr, ◌⊎◌}
use Rattle.std.specs.Prelude.{codes}
use Rattle.std.specs.List.{AllPass}
use Rattle.std.proofs.lemmas.List.{append-nil}
use Rattle.std.proofs.lemmas.Bool.{eqb-true}
use Rattle.markdown_scanners_tree.proofs.PassLemmas.{AllPass-nil, AllPass-cons, AllPass-head, AllPass-tail, AllPass-snoc}
use Rattle.markdown_scanners_tree.specs.Ascii.{carriage_return, quotation_mark, apostrophe, slash, less_than_sign, equals_sign, greater_than_sign}
use Rattle.markdown_scanners_tree.specs.Bytes.{is_unquoted, is_white_space, is_white_space_in_line}
use Rattle.markdown_scanners_tree.specs.scanners.html_tag.HtmlTag.{IsName, IsTagName, IsAttributeName, IsQuotedValue, IsUnquotedValue, IsAttribute}
use Rattle.markdown_scanners_tree.specs.scanners.html_tag.HtmlTag.{joined, AreAttributes, IsOpenTag, IsClosingTag, IsLineEndingOrNone}
use Rattle.markdown_scanners_tree.specs.scanners.tag_state.private.TagMachine.{after_part}
use Rattle.markdown_scanners_tree.specs.declared.scanners.tag_state.TagState.{TagState}
use Rattle.markdown_scanners_tree.specs.declared.scanners.tag_state.TagState.TheVariants.{Start, Opened, Name, Spaced, AttributeName, AfterName, BeforeValue, Unquoted, Quoted, AfterValue}
use Rattle.markdown_scanners_tree.specs.declared.scanners.tag_state.TagState.TheVariants.{Slashed, Open, Closing, ClosingName, ClosingSpaced, ClosingReturned, ClosingEnded, Closed, Refused}

pub choose : (t : Bool) (x y : TagState) (P : TagState → Type 0) → (t ≡ true → P x) → (t ≡ false → P y) → P (cond t x y)
choose true x y P f g = f refl
choose false x y P f g = g refl

-- one more byte at the end
pub name_more : (first later : ℕ → Bool) (xs : List ℕ) (b : ℕ) → IsName first later xs → later b ≡ true
    → IsName first later (xs ++ b ∷ [])
name_more first later [] b n k = absurd n
name_more first later (x ∷ xs) b n k = (n.0, AllPass-snoc later xs b n.1 k)

run_ends : (test : ℕ → Bool) (xs : List ℕ) (b : ℕ) → AllPass test xs → test b ≡ true → IsName test test (xs ++ b ∷ [])
run_ends test [] b h k = (k, AllPass-nil test)
run_ends test (x ∷ xs) b h k = (AllPass-head test x xs h, AllPass-snoc test xs b (AllPass-tail test x xs h) k)

pub name_all : (test : ℕ → Bool) (xs : List ℕ) → IsName test test xs → AllPass test xs
name_all test [] n = absurd n
name_all test (x ∷ xs) n = AllPass-cons test x xs n.0 n.1

joined_append : (ts : List (List ℕ)) (x y : List ℕ) → joined ts x ++ y ≡ joined ts (x ++ y)
joined_append [] x y = refl
joined_append (t ∷ ts) x y = append_assoc t (joined ts x) y ∙ ap (λ z. t ++ z) (joined_append ts x y)

joined_snoc : (ts : List (List ℕ)) (t rest : List ℕ) → joined (ts ++ t ∷ []) rest ≡ joined ts (t ++ rest)
joined_snoc [] t rest = refl
joined_snoc (u ∷ ts) t rest = ap (λ z. u ++ z) (joined_snoc ts t rest)

are_snoc : (ts : List (List ℕ)) (t rest : List ℕ) → AreAttributes ts (t ++ rest) → IsAttribute t rest
    → AreAttributes (ts ++ t ∷ []) rest
are_snoc [] t rest a i = (i, tt)
are_snoc (u ∷ ts) t rest a i =
    (subst (λ z. IsAttribute u z) (sym (joined_snoc ts t rest)) a.0, are_snoc ts t rest a.1 i)

-- an open tag as far as it is read: a name, attributes, and what comes after them
pub record Reading (Ends : List ℕ → Type 0) (pre : List ℕ) : Type 0 where
  pub name : List ℕ
  pub attributes : List (List ℕ)
  pub last : List ℕ
  pub parts : pre ≡ less_than_sign ∷ (name ++ joined attributes last)
  pub named : IsTagName name
  pub attributed : (rest : List ℕ) → AreAttributes attributes (last ++ rest)
  pub ends : Ends last

pub more : (P Q : List ℕ → Type 0) (pre : List ℕ) (b : ℕ) → Reading P pre → ((last : List ℕ) → P last → Q (last ++ b ∷ []))
    → Reading Q (pre ++ b ∷ [])
more P Q pre b r f = record {
  name = r.name;
  attributes = r.attributes;
  last = r.last ++ b ∷ [];
  parts =
      ap (λ z. z ++ b ∷ []) r.parts
      ∙ ap (λ z. less_than_sign ∷ z) (append_assoc r.name (joined r.attributes r.last) (b ∷ []) ∙ ap (λ z. r.name ++ z)
      (joined_append r.attributes r.last (b ∷ [])));
  named = r.named;
  attributed =
      λ rest. subst (λ z. AreAttributes r.attributes z) (sym (append_assoc r.last (b ∷ []) rest)) (r.attributed (b ∷ rest));
  ends = f r.last r.ends;
}

-- an attribute, and what comes after it
abbrev pub Full : (List ℕ → Type 0) → List ℕ → Type 0
Full Q last =
    (t : List ℕ) × (tail : List ℕ) × (last ≡ t ++ tail) × ((rest : List ℕ) → IsAttribute t (tail ++ rest)) × Q tail

pub committed : (Q : List ℕ → Type 0) (pre : List ℕ) → Reading (Full Q) pre → Reading Q pre
committed Q pre r =
    let t : List ℕ = r.ends.0 in
    let tail : List ℕ = r.ends.1 in
    let e : r.last ≡ t ++ tail = r.ends.2 in
    record {
      name = r.name;
      attributes = r.attributes ++ t ∷ [];
      last = tail;
      parts =
          r.parts
          ∙ ap (λ z. less_than_sign ∷ (r.name ++ z)) (ap (joined r.attributes) e ∙ sym (joined_snoc r.attributes t tail));
      named = r.named;
      attributed =
          λ rest. are_snoc r.attributes t (tail ++ rest)
          (subst (λ z. AreAttributes r.attributes z)
          (ap (λ z. z ++ rest) e ∙ append_assoc t tail rest) (r.attributed rest)) (r.ends.3 rest);
      ends = r.ends.4;
    }

-- white space, and one byte after it
abbrev pub Ended : ℕ → List ℕ → Type 0
Ended b last = (space : List ℕ) × (last ≡ space ++ b ∷ []) × AllPass is_white_space space

-- white space and an attribute name
abbrev pub NameAt : List ℕ → Type 0
NameAt last =
    (space : List ℕ) × (name : List ℕ) × (last ≡ space ++ name) × IsName is_white_space is_white_space space ×
    IsAttributeName name

abbrev pub AfterNameAt : List ℕ → Type 0
AfterNameAt last =
    (space : List ℕ) × (name : List ℕ) × (after : List ℕ) × (last ≡ (space ++ name) ++ after) ×
    IsName is_white_space is_white_space space × IsAttributeName name × IsName is_white_space is_white_space after

-- an attribute as far as its value is read
pub record Valued (V : List ℕ → Type 0) (last : List ℕ) : Type 0 where
  pub space : List ℕ
  pub name : List ℕ
  pub before : List ℕ
  pub after : List ℕ
  pub value : List ℕ
  pub parts : last ≡ (space ++ (name ++ (before ++ (equals_sign ∷ after)))) ++ value
  pub spaced : IsName is_white_space is_white_space space
  pub named : IsAttributeName name
  pub spaced_before : AllPass is_white_space before
  pub spaced_after : AllPass is_white_space after
  pub valued : V value

abbrev pub QuoteRead : ℕ → List ℕ → Type 0
QuoteRead quote value =
    (inner : List ℕ) × (value ≡ quote ∷ inner) × ((quote ≡ apostrophe) ⊎ (quote ≡ quotation_mark)) ×
    AllPass (λ b. not (b == quote)) inner

abbrev pub Leads : TagState → List ℕ → Type 0
Leads Start pre = pre ≡ []
Leads Opened pre = pre ≡ less_than_sign ∷ []
Leads Name pre = (name : List ℕ) × (pre ≡ less_than_sign ∷ name) × IsTagName name
Leads Spaced pre = Reading (IsName is_white_space is_white_space) pre
Leads AttributeName pre = Reading NameAt pre
Leads AfterName pre = Reading AfterNameAt pre
Leads BeforeValue pre = Reading (Valued (λ v. v ≡ [])) pre
Leads Unquoted pre = Reading (Valued (IsName (λ b. is_unquoted b && not (is_white_space b)) is_unquoted)) pre
Leads (Quoted quote) pre = Reading (Valued (QuoteRead quote)) pre
Leads AfterValue pre = Reading (λ last. last ≡ []) pre
Leads Slashed pre = Reading (Ended slash) pre
Leads Open pre = IsOpenTag pre
Leads Closing pre = pre ≡ less_than_sign ∷ slash ∷ []
Leads ClosingName pre = (name : List ℕ) × (pre ≡ less_than_sign ∷ slash ∷ name) × IsTagName name
Leads ClosingSpaced pre =
    (name : List ℕ) × (before : List ℕ) × (pre ≡ less_than_sign ∷ slash ∷ (name ++ before)) × IsTagName name ×
    AllPass is_white_space_in_line before
Leads ClosingReturned pre =
    (name : List ℕ) × (before : List ℕ) × (pre ≡ less_than_sign ∷ slash ∷ (name ++ (before ++ carriage_return ∷ []))) ×
    IsTagName name × AllPass is_white_space_in_line before
Leads ClosingEnded pre =
    (name : List ℕ) × (before : List ℕ) × (ending : List ℕ) × (after : List ℕ) ×
    (pre ≡ less_than_sign ∷ slash ∷ (name ++ (before ++ (ending ++ after)))) × IsTagName name ×
    AllPass is_white_space_in_line before × IsLineEndingOrNone ending × AllPass is_white_space_in_line after
Leads Closed pre = IsClosingTag pre
Leads Refused pre = Unit {0}

weaken : (P Q : List ℕ → Type 0) (pre : List ℕ) → Reading P pre → ((last : List ℕ) → P last → Q last) → Reading Q pre
weaken P Q pre r f =
    record {
      name = r.name;
      attributes = r.attributes;
      last = r.last;
      parts = r.parts;
      named = r.named;
      attributed = r.attributed;
      ends = f r.last r.ends;
    }

-- an attribute with no value
pub bare : (space name rest : List ℕ) → IsName is_white_space is_white_space space → IsAttributeName name
    → IsAttribute (space ++ name) rest
bare space name rest s n =
    record {
      space = space;
      name = name;
      spec = [];
      parts = sym (ap (λ z. space ++ z) (append-nil name));
      spaced = s;
      named = n;
      valued = inl refl;
    }

-- an attribute with a value
pub with_value : (V : List ℕ → Type 0) (last rest : List ℕ) → Valued V last
    → ((value : List ℕ) → V value → IsQuotedValue value ⊎ IsUnquotedValue value rest) → IsAttribute last rest
with_value V last rest v f = record {
  space = v.space;
  name = v.name;
  spec = v.before ++ (equals_sign ∷ (v.after ++ v.value));
  parts = v.parts ∙ simp append_assoc;
  spaced = v.spaced;
  named = v.named;
  valued =
      inr (record {
        before = v.before;
        after = v.after;
        value = v.value;
        parts = refl;
        spaced = v.spaced_before;
        spaced_after = v.spaced_after;
        valued = f v.value v.valued;
      });
}

-- one more byte of a value
pub value_more : (V W : List ℕ → Type 0) (last : List ℕ) (b : ℕ) → Valued V last
    → ((value : List ℕ) → V value → W (value ++ b ∷ [])) → Valued W (last ++ b ∷ [])
value_more V W last b v f = record {
  space = v.space;
  name = v.name;
  before = v.before;
  after = v.after;
  value = v.value ++ b ∷ [];
  parts =
      ap (λ z. z ++ b ∷ []) v.parts
      ∙ append_assoc (v.space ++ (v.name ++ (v.before ++ (equals_sign ∷ v.after)))) v.value (b ∷ []);
  spaced = v.spaced;
  named = v.named;
  spaced_before = v.spaced_before;
  spaced_after = v.spaced_after;
  valued = f v.value v.valued;
}

-- an open tag is whole
pub opened : (pre : List ℕ)
    → Reading (λ last. (space : List ℕ) × (slash : List ℕ) × (last ≡ space ++ (slash ++ codes ">")) ×
    AllPass is_white_space space × ((slash ≡ []) ⊎ (slash ≡ codes "/"))) pre
    → IsOpenTag pre
opened pre r = record {
  name = r.name;
  attributes = r.attributes;
  space = r.ends.0;
  slash = r.ends.1;
  parts = r.parts ∙ ap (λ z. less_than_sign ∷ (r.name ++ joined r.attributes z)) r.ends.2;
  named = r.named;
  attributed = subst (λ z. AreAttributes r.attributes z) (append-nil r.last ∙ r.ends.2) (r.attributed []);
  spaced = r.ends.3;
  slash_or_none = r.ends.4;
}

-- after a part, white space and one byte
pub after_leads : (b : ℕ) (pre : List ℕ) → Reading (Ended b) pre → Leads (after_part b) pre
after_leads b pre r =
    choose _ Spaced _ (λ s. Leads s pre) (λ w. weaken _ _ pre r
    (λ last e. subst (λ z. IsName is_white_space is_white_space z) (sym e.1) (run_ends is_white_space e.0 b e.2 w)))
    (λ w.
    choose _ Slashed _ (λ s. Leads s pre)
    (λ k. weaken _ _ pre r (λ last e. (e.0, e.1 ∙ ap (λ z. e.0 ++ z ∷ []) (eqb-true b slash k), e.2)))
    (λ k. choose _ Open _ (λ s. Leads s pre)
    (λ k. opened pre (weaken _ _ pre r
    (λ last e. (e.0, [], e.1 ∙ ap (λ z. e.0 ++ z ∷ []) (eqb-true b greater_than_sign k), e.2, inl refl))))
    (λ k. tt)))
