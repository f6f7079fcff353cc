-- A definition's label ends somewhere in its text.
use Rattle.std.proofs.Common.{ℕ, zero, suc, true, false, List, [], ◌∷◌, ◌++◌, ◌+◌, ◌-◌, ◌==◌, ◌&&◌, ◌||◌, ◌<◌, ◌≤◌, ◌≡◌}
use Rattle.std.proofs.Common.{length, take, drop, get_or, Option, Some, None}
use Rattle.std.proofs.Common.{refl, sym, ap, ◌∙◌, subst, inl, inr, arith, append_assoc, length-append, length-drop}
use Rattle.std.specs.List.{AllByRecursion}
use Rattle.std.proofs.lemmas.Bool.{cases_Bool, eqb-true}
use Rattle.std.proofs.lemmas.List.{take-append-drop, length-take-le, drop_at, drop-drop, drop_all, drop_more}
use Rattle.memchr.specs.Find.{Nowhere, NoneBefore, Passes, is_byte}
use Rattle.markdown_scanners_tree.specs.Ascii.{colon, left_bracket, right_bracket, backslash}
use Rattle.markdown_scanners_tree.specs.Bytes.{is_line_ending, is_punctuation, begins_with}
use Rattle.markdown_scanners_tree.specs.Kept.{KeptByte, kept_head, kept_return, kept_line, kept_from, line_len, in_line}
use Rattle.markdown_scanners_tree.specs.declared.scanners.reference_definitions.ReferenceDefinition.{ReferenceDefinition}
use Rattle.markdown_scanners_tree.specs.linklabel.Label.{Bracketed, Label, bracketed, preceded, kept_units, label_between, is_label_content}
use Rattle.markdown_scanners_tree.specs.linklabel.Length.{IsLabelLength}
use Rattle.markdown_scanners_tree.proofs.PrefixLemmas.{both_true, from_offset}
use Rattle.markdown_blocks.specs.definitions.Definitions.{IsDefinition}
use Rattle.markdown_blocks.specs.definitions.LabelEnds.{is_label_end, has_label_end}

-- where the byte that is kept closes a bracket, the source has one at its offset, before which so many bytes were passed
abbrev Closes : ℕ → List ℕ → KeptByte → Type 0
Closes passed source k = k.byte ≡ right_bracket
    → (front : List ℕ) × (back : List ℕ) × (source ≡ front ++ right_bracket ∷ back) × (k.offset ≡ passed + length front)

-- all of them do
abbrev AllClose : ℕ → List ℕ → List KeptByte → Type 0
AllClose passed source ks = AllByRecursion (Closes passed source) ks

one_later : (passed b : ℕ) (source : List ℕ) (k : KeptByte) → Closes (passed + 1) source k → Closes passed (b ∷ source) k
one_later passed b source k closes is =
    let there = closes is in
    (b ∷ there.0, there.1, ap (λ t. b ∷ t) there.2, omega (arith, there.3))

all_later : (passed b : ℕ) (source : List ℕ) (ks : List KeptByte) → AllClose (passed + 1) source ks → AllClose passed (b ∷ source) ks
all_later passed b source [] all = tt
all_later passed b source (k ∷ ks) all = (one_later passed b source k all.0, all_later passed b source ks all.1)

here : (passed b : ℕ) (source : List ℕ) → Closes passed (b ∷ source) (in_line b passed)
here passed b source is = ([], source, ap (λ c. c ∷ source) is, omega arith)

head_closes : (passed : ℕ) (source : List ℕ) → AllClose passed source (kept_head passed source)
head_closes passed [] = tt
head_closes passed (b ∷ bs) = elim (cases_Bool (is_line_ending b)) [
  | inl ends ↦ rw ends tt
  | inr plain ↦ rw plain (here passed b bs, all_later passed b bs (kept_head (passed + 1) bs) (head_closes (passed + 1) bs))
]

-- another byte is none that closes
never : {A : Type 0} (b : ℕ) → (b == right_bracket) ≡ false → b ≡ right_bracket → A
never b other is = let both : true ≡ false = subst (λ c. (c == right_bracket) ≡ false) is other in cc

return_closes : (passed : ℕ) (source bs : List ℕ) → AllClose passed source (kept_return passed bs)
return_closes passed source bs = elim (cases_Bool (begins_with (λ b. b == 10) bs)) [
  | inl two ↦ rw two (λ is. never 13 refl is, (λ is. never 10 refl is, tt))
  | inr one ↦ rw one (λ is. never 13 refl is, tt)
]

line_closes : (passed : ℕ) (source : List ℕ) → AllClose passed source (kept_line passed source)
line_closes passed [] = tt
line_closes passed (b ∷ bs) = elim (cases_Bool (b == 10)) [
  | inl lf ↦ rw lf (λ is. never 10 refl (sym (eqb-true b 10 lf) ∙ is), tt)
  | inr other ↦ elim (cases_Bool (b == 13)) [
    | inl cr ↦ rw (other, cr) (return_closes passed (b ∷ bs) bs)
    | inr plain ↦ rw (other, plain)
        (here passed b bs, all_later passed b bs (kept_line (passed + 1) bs) (line_closes (passed + 1) bs))
  ]
]

-- after so many more bytes
further : (passed n : ℕ) (source : List ℕ) (k : KeptByte) → Closes (passed + n) (drop n source) k → Closes passed source k
further passed n source k closes is =
    let there = closes is in
    let some : length (drop n source) ≡ length there.0 + suc (length there.1) =
    ap length there.2 ∙ length-append there.0 (right_bracket ∷ there.1) in
    let inside : n ≤ length source = omega (arith, some, length-drop n source) in
    let whole : source ≡ (take n source ++ there.0) ++ right_bracket ∷ there.1 =
    sym (take-append-drop n source) ∙ ap (λ t. take n source ++ t) there.2 ∙ sym (append_assoc (take n source) there.0 (right_bracket ∷ there.1)) in (
      take n source ++ there.0,
      there.1,
      whole,
      omega (arith, there.3, length-append (take n source) there.0, length-take-le n source inside),
    )

all_further : (passed n : ℕ) (source : List ℕ) (ks : List KeptByte) → AllClose (passed + n) (drop n source) ks → AllClose passed source ks
all_further passed n source [] all = tt
all_further passed n source (k ∷ ks) all = (further passed n source k all.0, all_further passed n source ks all.1)

both_close : (passed : ℕ) (source : List ℕ) (ks ls : List KeptByte) → AllClose passed source ks → AllClose passed source ls
    → AllClose passed source (ks ++ ls)
both_close passed source [] ls all others = others
both_close passed source (k ∷ ks) ls all others = (all.0, both_close passed source ks ls all.1 others)

kept_closes : (passed : ℕ) (source skips : List ℕ) → AllClose passed source (kept_from passed source skips)
kept_closes passed source [] = head_closes passed source
kept_closes passed source (skip ∷ skips) =
    let n = line_len source + skip in
    both_close passed source (kept_line passed source) (kept_from (passed + n) (drop n source) skips) (line_closes passed source)
    (all_further passed n source (kept_from (passed + n) (drop n source) skips) (kept_closes (passed + n) (drop n source) skips))

-- the byte that closes the brackets of a label stands at this offset
abbrev ClosesAt : List ℕ → ℕ → Type 0
ClosesAt source offset = (front : List ℕ) × (back : List ℕ) × (source ≡ front ++ right_bracket ∷ back) × (offset ≡ length front)

close_of : Option Bracketed → ℕ
close_of None = 0
close_of (Some b) = b.close

len_of : Option Label → ℕ
len_of None = 0
len_of (Some label) = label.len

module _ (source : List ℕ) where
  after : (ps : List KeptByte) (found : Option Bracketed) (b : Bracketed)
      → ((c : Bracketed) → found ≡ Some c → ClosesAt source c.close) → preceded ps found ≡ Some b → ClosesAt source b.close
  unfolding close_of
  after ps None b closes is = cc
  after ps (Some c) b closes is =
      let same : c.close ≡ b.close = ap close_of is in
      subst (λ offset. ClosesAt source offset) same (closes c refl)

  one_unit : (k : KeptByte) (units : List (List KeptByte)) (b : Bracketed) → Closes 0 source k
      → ((c : Bracketed) → bracketed units ≡ Some c → ClosesAt source c.close)
      → bracketed ((k ∷ []) ∷ units) ≡ Some b → ClosesAt source b.close
  unfolding close_of
  one_unit k units b here later is = elim (cases_Bool (k.byte == right_bracket)) [
    | inl closes ↦ (
        let there = here (eqb-true k.byte right_bracket closes) in
        let same : k.offset ≡ b.close = ap close_of (rw closes at is) in
        (there.0, there.1, there.2, omega (arith, same, there.3))
        )
    | inr unclosed ↦ elim (cases_Bool (k.byte == left_bracket)) [
      | inl opens ↦ let given : ◌≡◌ {A = Option Bracketed} None (Some b) = rw (unclosed, opens) at is in cc
      | inr plain ↦ after (k ∷ []) (bracketed units) b later (rw (unclosed, plain) at is)
    ]
  ]

  bracket_there : (ks : List KeptByte) (b : Bracketed) → AllClose 0 source ks → bracketed (kept_units ks) ≡ Some b
      → ClosesAt source b.close
  bracket_there [] b all is = cc
  bracket_there (k ∷ []) b all is = one_unit k [] b all.0 (λ c none. cc) is
  bracket_there (k ∷ l ∷ ks) b all is = elim (cases_Bool (k.byte == backslash && is_punctuation l.byte)) [
    | inl escapes ↦ after (k ∷ l ∷ []) (bracketed (kept_units ks)) b (λ c. bracket_there ks c all.1.1) (rw escapes at is)
    | inr single ↦ one_unit k (kept_units (l ∷ ks)) b all.0 (λ c. bracket_there (l ∷ ks) c all.1) (rw single at is)
  ]

-- so a label ends with a bracket
label_len_is : (b : Bracketed) (label : Label) → label_between false (Some b) ≡ Some label → label.len ≡ b.close + 1
unfolding len_of
label_len_is b label is = elim (cases_Bool (is_label_content b.content)) [
  | inl content ↦ sym (ap len_of (rw content at is))
  | inr other ↦ let given : ◌≡◌ {A = Option Label} None (Some label) = rw other at is in cc
]

label_closed : (inside : List ℕ) (n : ℕ) → IsLabelLength inside n
    → (front : List ℕ) × (back : List ℕ) × (inside ≡ front ++ right_bracket ∷ back) × (n ≡ length front + 1)
label_closed inside n is =
    by (bracketed (kept_units (kept_from 0 inside is.is_label.skips))) refl is.is_label.label_is
  where
    by : (found : Option Bracketed) → bracketed (kept_units (kept_from 0 inside is.is_label.skips)) ≡ found
        → label_between false found ≡ Some is.label
        → (front : List ℕ) × (back : List ℕ) × (inside ≡ front ++ right_bracket ∷ back) × (n ≡ length front + 1)
    by None found given = cc
    by (Some b) found given =
        let there = bracket_there inside (kept_from 0 inside is.is_label.skips) b (kept_closes 0 inside is.is_label.skips) found in
        let size = label_len_is b is.label given in
        (there.0, there.1, there.2, omega (arith, is.counted, there.3, size))

-- what stands somewhere is found
somewhere_in : (front rest : List ℕ) → has_label_end rest ≡ true → has_label_end (front ++ rest) ≡ true
somewhere_in [] rest there = there
somewhere_in (b ∷ front) rest there = elim (cases_Bool (is_label_end (b ∷ (front ++ rest)))) [
  | inl here ↦ rw here refl
  | inr later ↦ rw later (somewhere_in front rest there)
]

-- and so does the label of a definition
pub definition_has_label_end : (text : List ℕ) (d : ReferenceDefinition) → IsDefinition text d → has_label_end text ≡ true
definition_has_label_end text d is =
    let named = is.target.is_named in
    let closed = label_closed named.inside named.label_length named.is_label in
    let front = closed.0 in
    let back : closed.1 ≡ colon ∷ named.rest =
    sym (drop_at (front ++ right_bracket ∷ []) closed.1 named.label_length
    (omega (arith, closed.3, length-append front (right_bracket ∷ []))))
    ∙ ap (drop named.label_length) (append_assoc front (right_bracket ∷ []) closed.1 ∙ sym closed.2)
    ∙ named.colon_follows in
    let whole : text ≡ (left_bracket ∷ front) ++ right_bracket ∷ colon ∷ named.rest =
    named.opens ∙ ap (λ t. left_bracket ∷ t) (closed.2 ∙ ap (λ t. front ++ right_bracket ∷ t) back) in
    ap has_label_end whole ∙ somewhere_in (left_bracket ∷ front) (right_bracket ∷ colon ∷ named.rest) refl

pub none_without_label_end : (text : List ℕ) → has_label_end text ≡ false → (d : ReferenceDefinition) → ¬ IsDefinition text d
none_without_label_end text none d is = let both : true ≡ false = sym (definition_has_label_end text d is) ∙ none in cc

-- a label's end begins with the byte that is searched for
end_first : (b : ℕ) (bs : List ℕ) → is_label_end (b ∷ bs) ≡ true → (b == right_bracket) ≡ true
end_first b [] is = cc
end_first b (c ∷ bs) is = (both_true (b == right_bracket) (c == colon) is).0

one_passed : (b : ℕ) (bs : List ℕ) → is_label_end (b ∷ bs) ≡ false → has_label_end (b ∷ bs) ≡ has_label_end bs
one_passed b bs none = ap (λ t. t || has_label_end bs) none

-- the bytes before the first that is searched for
all_passed : (bytes : List ℕ) (k : ℕ) → k ≤ length bytes → Nowhere (Passes (is_byte right_bracket) bytes) 0 k
    → has_label_end bytes ≡ has_label_end (drop k bytes)
all_passed bytes zero inside none = refl
all_passed [] (suc k) inside none = refl
all_passed (b ∷ bs) (suc k) inside none =
    one_passed b bs none_here ∙ all_passed bs k (omega arith) (λ j low high. none (suc j) (omega arith) (omega arith))
  where
    none_here : is_label_end (b ∷ bs) ≡ false
    none_here = elim (cases_Bool (is_label_end (b ∷ bs))) [
      | inl passes ↦ absurd (none 0 (omega arith) (omega arith) (end_first b bs passes))
      | inr fails ↦ fails
    ]

-- a label ends there, or not
there : (bytes : List ℕ) (k : ℕ) → k < length bytes → is_label_end (drop k bytes) ≡ true → has_label_end (drop k bytes) ≡ true
there bytes k inside is =
    let cut = drop_more bytes k 0 inside in
    ap has_label_end cut ∙ ap (λ t. t || has_label_end (drop (k + 1) bytes)) (ap is_label_end (sym cut) ∙ is)

later : (bytes : List ℕ) (k : ℕ) → k < length bytes → is_label_end (drop k bytes) ≡ false
    → has_label_end (drop k bytes) ≡ has_label_end (drop (k + 1) bytes)
later bytes k inside none =
    let cut = drop_more bytes k 0 inside in
    ap has_label_end cut ∙ one_passed (get_or bytes k 0) (drop (k + 1) bytes) (ap is_label_end (sym cut) ∙ none)

-- the three answers of a search for that byte, from an offset on
module _ (bytes : List ℕ) (from : ℕ) where
  abbrev rest : List ℕ
  rest = take (length bytes - from) (drop from bytes)

  none_up_to : (k : ℕ) → k ≤ length rest → Nowhere (Passes (is_byte right_bracket) rest) 0 k
      → has_label_end (drop from bytes) ≡ has_label_end (drop (from + k) bytes)
  none_up_to k inside none =
      ap has_label_end (sym (from_offset bytes from))
      ∙ all_passed rest k inside none
      ∙ ap (λ z. has_label_end (drop k z)) (from_offset bytes from)
      ∙ ap has_label_end (drop-drop k from bytes)

  pub search_none : Nowhere (Passes (is_byte right_bracket) rest) 0 (length rest) → has_label_end (drop from bytes) ≡ false
  search_none none =
      ap has_label_end (sym (from_offset bytes from))
      ∙ all_passed rest (length rest) (omega arith) none
      ∙ ap has_label_end (drop_all (length rest) rest (omega arith))

  module _ (k : ℕ) (found : NoneBefore (Passes (is_byte right_bracket) rest) 0 (length rest) k × Passes (is_byte right_bracket) rest k) where
    within : from + k < length bytes
    within = let size : length rest ≡ length bytes - from = ap length (from_offset bytes from) ∙ length-drop from bytes in
        let high = found.0.high in omega arith

    pub search_found : is_label_end (take (length bytes - (from + k)) (drop (from + k) bytes)) ≡ true
        → has_label_end (drop from bytes) ≡ true
    search_found ends =
        none_up_to k (omega (arith, found.0.high)) found.0.before
        ∙ there bytes (from + k) within (sym (ap is_label_end (from_offset bytes (from + k))) ∙ ends)

    pub search_later : is_label_end (take (length bytes - (from + k)) (drop (from + k) bytes)) ≡ false
        → has_label_end (drop from bytes) ≡ has_label_end (drop (from + k + 1) bytes)
    search_later gone =
        none_up_to k (omega (arith, found.0.high)) found.0.before
        ∙ later bytes (from + k) within (sym (ap is_label_end (from_offset bytes (from + k))) ∙ gone)
