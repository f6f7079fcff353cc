-- Each tag leads the scanner to its end.
use Rattle.std.proofs.Common.{ℕ, List, [], ◌∷◌, ◌++◌, ◌≡◌, Bool, true, false, not, ◌&&◌, ◌==◌, refl, sym, ap, ◌∙◌, subst, append_assoc, inl, inr, ◌⊎◌, arith}
use Rattle.std.specs.Prelude.{codes}
use Rattle.std.specs.List.{AllPass}
use Rattle.std.proofs.lemmas.Bool.Decides.{nat_tests}
use Rattle.markdown_scanners_tree.specs.Ascii.{line_feed, carriage_return, quotation_mark, apostrophe, slash, equals_sign, greater_than_sign}
use Rattle.markdown_scanners_tree.specs.Bytes.{is_letter, is_unquoted, is_white_space, is_white_space_in_line}
use Rattle.markdown_scanners_tree.specs.scanners.html_tag.HtmlTag.{BeginsWithout, IsName, IsAttributeName, IsQuotedValue, IsUnquotedValue}
use Rattle.markdown_scanners_tree.specs.scanners.html_tag.HtmlTag.{IsValueSpecification, IsAttribute, joined, AreAttributes, IsOpenTag, IsClosingTag}
use Rattle.markdown_scanners_tree.specs.scanners.html_tag.HtmlTag.{IsLineEndingOrNone, is_tag_name_byte, is_attribute_start, is_attribute_byte}
use Rattle.markdown_scanners_tree.specs.scanners.tag_state.private.TagMachine.{next_state, state_after}
use Rattle.markdown_scanners_tree.specs.declared.scanners.tag_state.TagState.{TagState}
use Rattle.markdown_scanners_tree.specs.declared.scanners.tag_state.TagState.TheVariants.{Start, Opened, Name, Spaced, AttributeName, AfterName, BeforeValue, Unquoted, Quoted, AfterValue}
use Rattle.markdown_scanners_tree.specs.declared.scanners.tag_state.TagState.TheVariants.{Open, Closing, ClosingName, ClosingSpaced, ClosingReturned, ClosingEnded, Closed, Refused}
use Rattle.markdown_scanners_tree.proofs.PrefixLemmas.{both_true}
use Rattle.markdown_scanners_tree.proofs.PassLemmas.{AllPass-head, AllPass-tail}
use Rattle.markdown_scanners_tree.proofs.RunLemmas.{not_true}

pub state_after_append : (s : TagState) (xs ys : List ℕ) → state_after s (xs ++ ys) ≡ state_after (state_after s xs) ys
state_after_append s [] ys = refl
state_after_append s (x ∷ xs) ys = state_after_append (next_state s x) xs ys

-- bytes that leave the state as it is
stay : (s : TagState) (test : ℕ → Bool) → ((b : ℕ) → test b ≡ true → next_state s b ≡ s) → (xs : List ℕ)
    → AllPass test xs → state_after s xs ≡ s
stay s test f [] h = refl
stay s test f (x ∷ xs) h =
    ap (λ z. state_after z xs) (f x (AllPass-head test x xs h)) ∙ stay s test f xs (AllPass-tail test x xs h)

named : (s t : TagState) (first later : ℕ → Bool) → ((b : ℕ) → first b ≡ true → next_state s b ≡ t)
    → ((b : ℕ) → later b ≡ true → next_state t b ≡ t) → (xs : List ℕ) → IsName first later xs → state_after s xs ≡ t
named s t first later f g [] n = absurd n
named s t first later f g (x ∷ xs) n = ap (λ z. state_after z xs) (f x n.0) ∙ stay t later g xs n.1

-- white space begins and continues no name
space_not_name : (b : ℕ) → is_white_space b ≡ true → is_tag_name_byte b ≡ false
space_not_name b h = grind (arith, nat_tests)

space_not_start : (b : ℕ) → is_white_space b ≡ true → is_attribute_start b ≡ false
space_not_start b h = grind (arith, nat_tests)

space_not_attribute : (b : ℕ) → is_white_space b ≡ true → is_attribute_byte b ≡ false
space_not_attribute b h = grind (arith, nat_tests)

line_space_not_name : (b : ℕ) → is_white_space_in_line b ≡ true → is_tag_name_byte b ≡ false
line_space_not_name b h = grind (arith, nat_tests)

-- a name or an attribute ends before the rest
data AtEnd : TagState → List ℕ → Type 0 where
  at_name : {rest : List ℕ} → AtEnd Name rest
  at_attribute : {rest : List ℕ} → AtEnd AttributeName rest
  at_value : {rest : List ℕ} → AtEnd AfterValue rest
  at_unquoted : {rest : List ℕ} → BeginsWithout is_unquoted rest → AtEnd Unquoted rest

-- white space stands after a name or an attribute
data InSpace : TagState → Type 0 where
  in_spaced : InSpace Spaced
  in_after_name : InSpace AfterName

space_after : (s : TagState) (b : ℕ) (rest : List ℕ) → AtEnd s (b ∷ rest) → is_white_space b ≡ true
    → InSpace (next_state s b)
space_after _ b rest at_name w = rw (space_not_name b w, w) in_spaced
space_after _ b rest at_attribute w = rw (space_not_attribute b w, w) in_after_name
space_after _ b rest at_value w = rw w in_spaced
space_after _ b rest (at_unquoted a) w = rw (a, w) in_spaced

space_more : (s : TagState) (b : ℕ) → InSpace s → is_white_space b ≡ true → InSpace (next_state s b)
space_more _ b in_spaced w = rw (space_not_start b w, w) in_spaced
space_more _ b in_after_name w = rw (space_not_start b w, w) in_after_name

space_run : (s : TagState) (xs : List ℕ) → InSpace s → AllPass is_white_space xs → InSpace (state_after s xs)
space_run s [] a h = a
space_run s (x ∷ xs) a h =
    space_run (next_state s x) xs (space_more s x a (AllPass-head is_white_space x xs h)) (AllPass-tail is_white_space x xs h)

name_in_space : (s : TagState) → InSpace s → (name : List ℕ) → IsAttributeName name → state_after s name ≡ AttributeName
name_in_space _ in_spaced name n =
    named Spaced AttributeName is_attribute_start is_attribute_byte (λ b h. rw h refl) (λ b h. rw h refl) name n
name_in_space _ in_after_name name n =
    named AfterName AttributeName is_attribute_start is_attribute_byte (λ b h. rw h refl) (λ b h. rw h refl) name n

-- white space before `=`
before_equals : (xs : List ℕ) → AllPass is_white_space xs
    → next_state (state_after AttributeName xs) equals_sign ≡ BeforeValue
before_equals [] h = refl
before_equals (x ∷ xs) h =
    let w : is_white_space x ≡ true = AllPass-head is_white_space x xs h in
    let first : next_state AttributeName x ≡ AfterName = rw (space_not_attribute x w, w) refl in
    ap (λ z. next_state (state_after z xs) equals_sign) first ∙ ap (λ z. next_state z equals_sign) (stay AfterName
    is_white_space (λ b w. rw (space_not_start b w, w) refl) xs (AllPass-tail is_white_space x xs h))

quoted_run : (quote : ℕ) (inner : List ℕ) → ((quote ≡ apostrophe) ⊎ (quote ≡ quotation_mark))
    → AllPass (λ b. not (b == quote)) inner → next_state BeforeValue quote ≡ Quoted quote → (quote == quote) ≡ true
    → state_after BeforeValue (quote ∷ (inner ++ quote ∷ [])) ≡ AfterValue
quoted_run quote inner q h first same =
    ap (λ z. state_after z (inner ++ quote ∷ [])) first
    ∙ state_after_append (Quoted quote) inner (quote ∷ [])
    ∙ ap (λ z. next_state z quote)
    (stay (Quoted quote) (λ b. not (b == quote)) (λ b k. rw (not_true (b == quote) k) refl) inner h)
    ∙ rw same refl

unquoted_start : (b : ℕ) → (is_unquoted b && not (is_white_space b)) ≡ true → next_state BeforeValue b ≡ Unquoted
unquoted_start b h =
    let u : is_unquoted b ≡ true = (both_true _ _ h).0 in
    let w : is_white_space b ≡ false = not_true (is_white_space b) (both_true _ _ h).1 in
    rw (w, u) refl

value_run : (value rest : List ℕ) → IsQuotedValue value ⊎ IsUnquotedValue value rest
    → AtEnd (state_after BeforeValue value) rest
value_run value rest (inl (quote, inner, inl q, a, e)) =
    let end : state_after BeforeValue value ≡ AfterValue =
    ap (state_after BeforeValue) e ∙ quoted_run quote inner (inl q) a (rw q refl) (rw q refl) in
    subst (λ z. AtEnd z rest) (sym end) at_value
value_run value rest (inl (quote, inner, inr q, a, e)) =
    let end : state_after BeforeValue value ≡ AfterValue =
    ap (state_after BeforeValue) e ∙ quoted_run quote inner (inr q) a (rw q refl) (rw q refl) in
    subst (λ z. AtEnd z rest) (sym end) at_value
value_run value rest (inr (n, l)) =
    let end : state_after BeforeValue value ≡ Unquoted =
    named BeforeValue Unquoted _ is_unquoted unquoted_start (λ b h. rw h refl) value n in
    subst (λ z. AtEnd z rest) (sym end) (at_unquoted l)

spec_run : (spec rest : List ℕ) → IsValueSpecification spec rest → AtEnd (state_after AttributeName spec) rest
spec_run spec rest v =
    let split : state_after AttributeName spec ≡ state_after BeforeValue v.value =
    ap (state_after AttributeName) v.parts
    ∙ state_after_append AttributeName v.before (equals_sign ∷ (v.after ++ v.value))
    ∙ ap (λ z. state_after z (v.after ++ v.value)) (before_equals v.before v.spaced)
    ∙ state_after_append BeforeValue v.after v.value
    ∙ ap (λ z. state_after z v.value) (stay BeforeValue is_white_space (λ b w. rw w refl) v.after v.spaced_after) in
    subst (λ z. AtEnd z rest) (sym split) (value_run v.value rest v.valued)

attribute_run : (s : TagState) (attribute rest : List ℕ) → AtEnd s (attribute ++ rest) → IsAttribute attribute rest
    → AtEnd (state_after s attribute) rest
attribute_run s attribute rest a i =
    subst (λ z. AtEnd z rest) (sym split) (last i.valued)
  where
    spaced : (space more : List ℕ) → IsName is_white_space is_white_space space → AtEnd s (space ++ more)
        → InSpace (state_after s space)
    spaced [] more n h = absurd n
    spaced (x ∷ xs) more n h = space_run (next_state s x) xs (space_after s x (xs ++ more) h n.0) n.1

    in_space : InSpace (state_after s i.space)
    in_space =
        spaced i.space ((i.name ++ i.spec) ++ rest) i.spaced
        (subst (λ z. AtEnd s z) (ap (λ z. z ++ rest) i.parts ∙ append_assoc i.space (i.name ++ i.spec) rest) a)

    split : state_after s attribute ≡ state_after AttributeName i.spec
    split =
        ap (state_after s) i.parts ∙ state_after_append s i.space (i.name ++ i.spec)
        ∙ state_after_append (state_after s i.space) i.name i.spec
        ∙ ap (λ z. state_after z i.spec) (name_in_space (state_after s i.space) in_space i.name i.named)

    last : (i.spec ≡ []) ⊎ IsValueSpecification i.spec rest → AtEnd (state_after AttributeName i.spec) rest
    last (inl e) = rw e at_attribute
    last (inr v) = spec_run i.spec rest v

attributes_run : (s : TagState) (ts : List (List ℕ)) (rest : List ℕ) → AtEnd s (joined ts rest) → AreAttributes ts rest
    → (t : TagState) × AtEnd t rest × (state_after s (joined ts rest) ≡ state_after t rest)
attributes_run s [] rest a i = (s, a, refl)
attributes_run s (u ∷ ts) rest a i =
    let next = attributes_run (state_after s u) ts rest (attribute_run s u (joined ts rest) a i.0) i.1 in
    (next.0, next.1, state_after_append s u (joined ts rest) ∙ next.2)

close_now : (s : TagState) → AtEnd s (greater_than_sign ∷ []) → next_state s greater_than_sign ≡ Open
close_now _ at_name = refl
close_now _ at_attribute = refl
close_now _ at_value = refl
close_now _ (at_unquoted a) = refl

slash_now : (s : TagState) → AtEnd s (slash ∷ greater_than_sign ∷ [])
    → next_state (next_state s slash) greater_than_sign ≡ Open
slash_now _ at_name = refl
slash_now _ at_attribute = refl
slash_now _ at_value = refl
slash_now _ (at_unquoted a) = cc

close_space : (s : TagState) → InSpace s → next_state s greater_than_sign ≡ Open
close_space _ in_spaced = refl
close_space _ in_after_name = refl

slash_space : (s : TagState) → InSpace s → next_state (next_state s slash) greater_than_sign ≡ Open
slash_space _ in_spaced = refl
slash_space _ in_after_name = refl

finish : (s : TagState) (space slash : List ℕ) → AtEnd s (space ++ (slash ++ codes ">")) → AllPass is_white_space space
    → ((slash ≡ []) ⊎ (slash ≡ codes "/")) → state_after s (space ++ (slash ++ codes ">")) ≡ Open
finish s [] slash a h (inl e) = rw e (close_now s (rw e at a))
finish s [] slash a h (inr e) = rw e (slash_now s (rw e at a))
finish s (x ∷ xs) slash a h (inl e) =
    state_after_append (next_state s x) xs (slash ++ greater_than_sign ∷ []) ∙ rw e (close_space _
    (space_run _ xs (space_after s x _ a (AllPass-head is_white_space x xs h)) (AllPass-tail is_white_space x xs h)))
finish s (x ∷ xs) slash a h (inr e) =
    state_after_append (next_state s x) xs (slash ++ greater_than_sign ∷ []) ∙ rw e (slash_space _
    (space_run _ xs (space_after s x _ a (AllPass-head is_white_space x xs h)) (AllPass-tail is_white_space x xs h)))

-- an open tag leads to its end
pub open_whole : (tag : List ℕ) → IsOpenTag tag → state_after Start tag ≡ Open
open_whole tag i =
    let name : state_after Opened i.name ≡ Name =
    named Opened Name is_letter is_tag_name_byte (λ b h. rw h refl) (λ b h. rw h refl) i.name i.named in
    let run = attributes_run Name i.attributes (i.space ++ (i.slash ++ greater_than_sign ∷ [])) at_name i.attributed in
    ap (state_after Start) i.parts ∙ state_after_append Opened i.name _ ∙ ap
    (λ z. state_after z (joined i.attributes (i.space ++ (i.slash ++ greater_than_sign ∷ [])))) name ∙ run.2 ∙
    finish run.0 i.space i.slash run.1 i.spaced i.slash_or_none

-- a closing tag before its line ending
data InClosing : TagState → Type 0 where
  in_closing_name : InClosing ClosingName
  in_closing_spaced : InClosing ClosingSpaced

closing_more : (s : TagState) (b : ℕ) → InClosing s → is_white_space_in_line b ≡ true → InClosing (next_state s b)
closing_more _ b in_closing_name w = rw (line_space_not_name b w, w) in_closing_spaced
closing_more _ b in_closing_spaced w = rw w in_closing_spaced

closing_run : (s : TagState) (xs : List ℕ) → InClosing s → AllPass is_white_space_in_line xs
    → InClosing (state_after s xs)
closing_run s [] a h = a
closing_run s (x ∷ xs) a h =
    closing_run (next_state s x) xs (closing_more s x a (AllPass-head is_white_space_in_line x xs h))
    (AllPass-tail is_white_space_in_line x xs h)

close_closing : (s : TagState) → InClosing s → next_state s greater_than_sign ≡ Closed
close_closing _ in_closing_name = refl
close_closing _ in_closing_spaced = refl

ends_at_lf : (s : TagState) → InClosing s → next_state s line_feed ≡ ClosingEnded
ends_at_lf _ in_closing_name = refl
ends_at_lf _ in_closing_spaced = refl

returns_at_cr : (s : TagState) → InClosing s → next_state s carriage_return ≡ ClosingReturned
returns_at_cr _ in_closing_name = refl
returns_at_cr _ in_closing_spaced = refl

after_ending : (xs : List ℕ) → AllPass is_white_space_in_line xs
    → state_after ClosingEnded (xs ++ greater_than_sign ∷ []) ≡ Closed
after_ending xs h =
    state_after_append ClosingEnded xs (greater_than_sign ∷ [])
    ∙ ap (λ z. next_state z greater_than_sign) (stay ClosingEnded is_white_space_in_line (λ b w. rw w refl) xs h)

after_return : (xs : List ℕ) → AllPass is_white_space_in_line xs
    → state_after ClosingReturned (xs ++ greater_than_sign ∷ []) ≡ Closed
after_return [] h = refl
after_return (x ∷ xs) h =
    let w : is_white_space_in_line x ≡ true = AllPass-head is_white_space_in_line x xs h in
    let first : next_state ClosingReturned x ≡ ClosingEnded = rw w refl in
    ap (λ z. state_after z (xs ++ greater_than_sign ∷ [])) first ∙ after_ending xs (AllPass-tail is_white_space_in_line x xs h)

ending_run : (s : TagState) → InClosing s → (ending after : List ℕ) → IsLineEndingOrNone ending
    → AllPass is_white_space_in_line after → state_after s (ending ++ (after ++ greater_than_sign ∷ [])) ≡ Closed
ending_run s a ending after (inl e) h =
    ap (λ z. state_after s (z ++ (after ++ greater_than_sign ∷ []))) e
    ∙ state_after_append s after (greater_than_sign ∷ [])
    ∙ close_closing (state_after s after) (closing_run s after a h)
ending_run s a ending after (inr (inl e)) h =
    ap (λ z. state_after s (z ++ (after ++ greater_than_sign ∷ []))) e
    ∙ ap (λ z. state_after z (after ++ greater_than_sign ∷ [])) (ends_at_lf s a) ∙ after_ending after h
ending_run s a ending after (inr (inr (inl e))) h =
    ap (λ z. state_after s (z ++ (after ++ greater_than_sign ∷ []))) e
    ∙ ap (λ z. state_after z (after ++ greater_than_sign ∷ [])) (returns_at_cr s a) ∙ after_return after h
ending_run s a ending after (inr (inr (inr e))) h =
    ap (λ z. state_after s (z ++ (after ++ greater_than_sign ∷ []))) e
    ∙ ap (λ z. state_after (next_state z line_feed) (after ++ greater_than_sign ∷ [])) (returns_at_cr s a)
    ∙ after_ending after h

-- a closing tag leads to its end
pub closing_whole : (tag : List ℕ) → IsClosingTag tag → state_after Start tag ≡ Closed
closing_whole tag i =
    let name : state_after Closing i.name ≡ ClosingName =
    named Closing ClosingName is_letter is_tag_name_byte (λ b h. rw h refl) (λ b h. rw h refl) i.name i.named in
    ap (state_after Start) i.parts ∙ state_after_append Closing i.name _ ∙ ap
    (λ z. state_after z (i.before ++ (i.ending ++ (i.after ++ greater_than_sign ∷ [])))) name
    ∙ state_after_append ClosingName i.before _ ∙ ending_run (state_after ClosingName i.before)
    (closing_run ClosingName i.before in_closing_name i.spaced) i.ending i.after i.ended i.spaced_after

-- nothing that is refused comes to an end
pub refused_stays : (xs : List ℕ) → state_after Refused xs ≡ Refused
refused_stays [] = refl
refused_stays (x ∷ xs) = refused_stays xs
