-- At two offsets with the same text after them a line goes on with the same containers, and begins the same.
use Rattle.std.proofs.Common.{ℕ, suc, Bool, true, false, ◌==◌, ◌+◌, ◌≡◌, List, [], ◌∷◌, length, Option, Some, None, refl, sym, ap, ◌∙◌, subst}
use Rattle.std.specs.Prelude.{if◌then◌else◌, ⊤}
use Rattle.markdown_scanners_tree.specs.Ascii.{colon, greater_than_sign}
use Rattle.markdown_scanners_tree.specs.Bytes.{begins_with}
use Rattle.markdown_scanners_tree.specs.line.Outcome.{Outcome, after_quote, definition_outcome}
use Rattle.markdown_scanners_tree.specs.line.Outcome.{not_found, space_or_end_follows}
use Rattle.markdown_scanners_tree.specs.line.PlainStep.{definition_spaces}
use Rattle.markdown_scanners_tree.specs.line.State.{LineState, unscanned, rest_of, leading_spaces, bytes_further, space_within, after_space}
use Rattle.markdown_scanners_tree.specs.scanners.list_items.ListMarker.{Marker, list_marker}
use Rattle.markdown_blocks.specs.blank_lines.BlankLines.{is_blank}
use Rattle.markdown_blocks.specs.containers.Containers.{past_quote, begun_at, begun_after, either_begun, extension_of}
use Rattle.markdown_blocks.specs.containers.Containers.{footnote_by, footnote_of, term_definition_by, term_definition_of, item_of, without_terms}
use Rattle.markdown_blocks.specs.containers.Containers.{within, within_quote, within_width, go_on, Opens}
use Rattle.markdown_blocks.specs.containers.Footnotes.{after_columns, footnote_label}
use Rattle.markdown_blocks.specs.containers.ItemMarkers.{further_spaces, item_outcome, item_outcome_after, item_outcome_by}
use Rattle.markdown_values.specs.declared.values.extensions.Extensions.{Extensions}
use Rattle.markdown_blocks.specs.declared.containers.Container.{Container}
use Rattle.markdown_blocks.specs.declared.containers.Container.TheVariants.{Quote, Item, Footnote, TermDefinition}
use Rattle.markdown_blocks.proofs.containers.ContainerLemmas.{step_on}
use Rattle.markdown_blocks.proofs.laws.AlikeLemmas.{Alike, space_alike, bytes_alike, same_left, same_quote, same_further, same_end, same_space}

either_alike : (b c : Bool) (s t s' t' : LineState) → b ≡ c → Alike s t → Alike s' t' → Alike (if b then s else s') (if c then t else t')
either_alike true c s t s' t' same a a' = rw (← same) a
either_alike false c s t s' t' same a a' = rw (← same) a'

pub quote_alike : (s t : LineState) → Alike s t → Alike (after_quote s) (after_quote t)
quote_alike s t a =
    either_alike (begins_with (λ b. b == greater_than_sign) (unscanned s)) (begins_with (λ b. b == greater_than_sign) (unscanned t))
    (after_space 1 (bytes_further 1 s)) (after_space 1 (bytes_further 1 t)) s t (same_quote s t a)
    (space_alike (bytes_further 1 s) (bytes_further 1 t) (bytes_alike s t a 1) 1) a

-- what is found with the offset after it
abbrev pub FoundAlike : {A : Type 0} → Option (A × LineState) → Option (A × LineState) → Type 0
FoundAlike None None = ⊤
FoundAlike None (Some q) = ⊥
FoundAlike (Some p) None = ⊥
FoundAlike (Some p) (Some q) = (p.0 ≡ q.0) × Alike p.1 q.1

abbrev PlaceAlike : Option LineState → Option LineState → Type 0
PlaceAlike None None = ⊤
PlaceAlike None (Some q) = ⊥
PlaceAlike (Some p) None = ⊥
PlaceAlike (Some p) (Some q) = Alike p q

pub alike_none : {A : Type 0} (f g : Option (A × LineState)) → FoundAlike f g → f ≡ None → g ≡ None
alike_none None None same is = refl
alike_none None (Some q) same is = absurd same
alike_none (Some p) g same is = cc

pub alike_some : {A : Type 0} (f g : Option (A × LineState)) (found : A × LineState) → FoundAlike f g → f ≡ Some found
    → (next : LineState) × (g ≡ Some (found.0, next)) × Alike found.1 next
alike_some None g found same is = cc
alike_some (Some p) None found same is = absurd same
alike_some (Some p) (Some q) found same is =
    let parts : p ≡ found = cc in
    let first : q.0 ≡ found.0 = sym same.0 ∙ ap (λ z. z.0) parts in
    (q.1, ap (λ x. Some (x, q.1)) first, subst (λ z. Alike z.1 q.1) parts same.1)

-- list items
record SameOutcome {A : Type 0} (found other : Outcome A) : Type 0 where
  answers : found.answer ≡ other.answer
  states : Alike found.state other.state

item_after : (indent : ℕ) (m : Marker) (s t : LineState) → Alike s t → SameOutcome (item_outcome_after indent m s) (item_outcome_after indent m t)
item_after indent m s t a = record {
  answers = ap (λ n. Some (m.delimiter, m.start, indent + m.width + 1 + n)) (same_further s t a);
  states = subst (λ n. Alike (after_space n s) (after_space (further_spaces t) t)) (sym (same_further s t a)) (space_alike s t a (further_spaces t));
}

either_outcome : {A : Type 0} (b c : Bool) (o o' p p' : Outcome A) → b ≡ c → SameOutcome o o' → SameOutcome p p'
    → SameOutcome (if b then o else p) (if c then o' else p')
either_outcome true c o o' p p' same h h' = rw (← same) h
either_outcome false c o o' p p' same h h' = rw (← same) h'

item_by : (indent : ℕ) (s t : LineState) (found : Option Marker) → Alike s t → SameOutcome (item_outcome_by indent s found) (item_outcome_by indent t found)
item_by indent s t None a = record { answers = refl; states = a }
item_by indent s t (Some m) a =
    let marked = bytes_alike s t a m.width in
    let spaced = space_alike (bytes_further m.width s) (bytes_further m.width t) marked 1 in
    either_outcome (space_or_end_follows (bytes_further m.width s)) (space_or_end_follows (bytes_further m.width t))
    (item_outcome_after indent m (after_space 1 (bytes_further m.width s))) (item_outcome_after indent m (after_space 1 (bytes_further m.width t)))
    (not_found s) (not_found t) (same_end (bytes_further m.width s) (bytes_further m.width t) marked)
    (item_after indent m (after_space 1 (bytes_further m.width s)) (after_space 1 (bytes_further m.width t)) spaced)
    (record { answers = refl; states = a })

same_item : (indent : ℕ) (s t : LineState) → Alike s t → SameOutcome (item_outcome indent s) (item_outcome indent t)
same_item indent s t a =
    subst (λ m. SameOutcome (item_outcome indent s) (item_outcome_by indent t m)) (ap list_marker a.text)
    (item_by indent s t (list_marker (unscanned s)) a)

item_made : (answer : Option (ℕ × ℕ × ℕ)) (s t : LineState) → Alike s t
    → FoundAlike (item_of (record { answer = answer; state = s })) (item_of (record { answer = answer; state = t }))
item_made None s t a = tt
item_made (Some r) s t a =
    (ap (λ bs. Item (record { delimiter = r.0; start = r.1; width = r.2; starts_blank = is_blank bs })) a.text, a)

found_item : (found other : Outcome (ℕ × ℕ × ℕ)) → SameOutcome found other → FoundAlike (item_of found) (item_of other)
found_item found other same =
    subst (λ answer. FoundAlike (item_of found) (item_of (record { answer = answer; state = other.state }))) same.answers
    (item_made found.answer found.state other.state same.states)

-- the containers that begin there
either_found : {A : Type 0} (b c : Bool) (f g f' g' : Option (A × LineState)) → b ≡ c → FoundAlike f g → FoundAlike f' g'
    → FoundAlike (if b then f else f') (if c then g else g')
either_found true c f g f' g' same h h' = rw (← same) h
either_found false c f g f' g' same h h' = rw (← same) h'

-- footnote definitions
columns_alike : (s t : LineState) → Alike s t → Alike (after_columns s) (after_columns t)
columns_alike s t a =
    subst (λ n. Alike (after_space n s) (after_columns t)) (sym (ap leading_spaces (same_left s t a))) (space_alike s t a (leading_spaces (rest_of t)))

label_alike : (s t : LineState) (label : Option (List ℕ)) → Alike s t → FoundAlike (footnote_by s label) (footnote_by t label)
label_alike s t None a = tt
label_alike s t (Some l) a =
    (refl, columns_alike (bytes_further (length l + 4) s) (bytes_further (length l + 4) t) (bytes_alike s t a (length l + 4)))

footnote_alike : (asked : Extensions) (s t : LineState) → Alike s t → FoundAlike (footnote_of asked s) (footnote_of asked t)
footnote_alike asked s t a =
    either_found asked.footnotes asked.footnotes (footnote_by s (footnote_label (unscanned s))) (footnote_by t (footnote_label (unscanned t))) None None refl
    (subst (λ l. FoundAlike (footnote_by s (footnote_label (unscanned s))) (footnote_by t l)) (ap footnote_label a.text)
    (label_alike s t (footnote_label (unscanned s)) a)) tt

-- definitions of terms
same_definition : (indent : ℕ) (s t : LineState) → Alike s t → SameOutcome (definition_outcome indent s) (definition_outcome indent t)
same_definition indent s t a =
    let after = bytes_alike s t a 1 in
    let columns = ap definition_spaces (ap leading_spaces (same_left (bytes_further 1 s) (bytes_further 1 t) after)) in
    let n = definition_spaces (leading_spaces (rest_of (bytes_further 1 t))) in
    either_outcome (begins_with (λ b. b == colon) (unscanned s)) (begins_with (λ b. b == colon) (unscanned t)) _ _ (not_found s) (not_found t)
    (ap (begins_with (λ b. b == colon)) a.text)
    (record {
      answers = ap (λ k. Some (indent + 1 + k)) columns;
      states = subst (λ k. Alike (after_space k (bytes_further 1 s)) (after_space n (bytes_further 1 t))) (sym columns)
          (space_alike (bytes_further 1 s) (bytes_further 1 t) after n);
    })
    (record { answers = refl; states = a })

definition_made : (answer : Option ℕ) (s t : LineState) → Alike s t
    → FoundAlike (term_definition_by (record { answer = answer; state = s })) (term_definition_by (record { answer = answer; state = t }))
definition_made None s t a = tt
definition_made (Some width) s t a = (ap (λ bs. TermDefinition (record { starts_blank = is_blank bs; width = width })) a.text, a)

found_definition : (found other : Outcome ℕ) → SameOutcome found other → FoundAlike (term_definition_by found) (term_definition_by other)
found_definition found other same =
    subst (λ answer. FoundAlike (term_definition_by found) (term_definition_by (record { answer = answer; state = other.state }))) same.answers
    (definition_made found.answer found.state other.state same.states)

definition_alike : (asked : Extensions) (indent : ℕ) (s t : LineState) → Alike s t
    → FoundAlike (term_definition_of asked indent s) (term_definition_of asked indent t)
definition_alike asked indent s t a =
    either_found asked.definition_lists asked.definition_lists (term_definition_by (definition_outcome indent s))
    (term_definition_by (definition_outcome indent t)) None None refl
    (found_definition (definition_outcome indent s) (definition_outcome indent t) (same_definition indent s t a)) tt

first_alike : (f g f' g' : Option (Container × LineState)) → FoundAlike f g → FoundAlike f' g' → FoundAlike (either_begun f f') (either_begun g g')
first_alike None None f' g' h h' = h'
first_alike None (Some q) f' g' h h' = absurd h
first_alike (Some p) None f' g' h h' = absurd h
first_alike (Some p) (Some q) f' g' h h' = h

begun_alike : (asked : Extensions) (indent : ℕ) (s t : LineState) → Alike s t → FoundAlike (begun_after asked indent s) (begun_after asked indent t)
begun_alike asked indent s t a =
    either_found (indent == 4) (indent == 4) None None _ _ refl tt
    (either_found (begins_with (λ b. b == greater_than_sign) (unscanned s)) (begins_with (λ b. b == greater_than_sign) (unscanned t))
    (Some (Quote, after_quote s)) (Some (Quote, after_quote t)) (either_begun (item_of (item_outcome indent s)) (extension_of asked indent s))
    (either_begun (item_of (item_outcome indent t)) (extension_of asked indent t)) (same_quote s t a) (refl, quote_alike s t a)
    (first_alike (item_of (item_outcome indent s)) (item_of (item_outcome indent t)) (extension_of asked indent s) (extension_of asked indent t)
    (found_item (item_outcome indent s) (item_outcome indent t) (same_item indent s t a))
    (first_alike (footnote_of asked s) (footnote_of asked t) (term_definition_of asked indent s) (term_definition_of asked indent t)
    (footnote_alike asked s t a) (definition_alike asked indent s t a))))

pub same_begun : (asked : Extensions) (s t : LineState) → Alike s t → FoundAlike (begun_at asked s) (begun_at asked t)
same_begun asked s t a =
    subst (λ n. FoundAlike (begun_at asked s) (begun_after asked n (after_space 4 t))) (same_space s t a 4)
    (begun_alike asked (space_within 4 s) (after_space 4 s) (after_space 4 t) (space_alike s t a 4))

pub same_opens : (asked : Extensions) (begun : List Container) (s t after : LineState) → Alike s t → Opens asked s begun after
    → (other : LineState) × Opens asked t begun other × Alike after other
same_opens asked [] s t after a o =
    (t, (alike_none (begun_at asked s) (begun_at asked t) (same_begun asked s t a) o.0, refl), subst (λ z. Alike z t) (sym o.1) a)
same_opens asked (c ∷ begun) s t after a o =
    let next = alike_some (begun_at asked s) (begun_at asked t) (c, o.0) (same_begun asked s t a) o.1 in
    let more = same_opens (without_terms asked) begun o.0 next.0 after next.2 o.2 in
    (more.0, (next.0, next.1, more.1), more.2)

-- the containers that the line goes on with there
either_offset : (b c : Bool) (f g f' g' : Option LineState) → b ≡ c → PlaceAlike f g → PlaceAlike f' g'
    → PlaceAlike (if b then f else f') (if c then g else g')
either_offset true c f g f' g' same h h' = rw (← same) h
either_offset false c f g f' g' same h h' = rw (← same) h'

after_alike : (indent : ℕ) (s t : LineState) → Alike s t → PlaceAlike (past_quote indent s) (past_quote indent t)
after_alike indent s t a =
    either_offset (indent == 4) (indent == 4) None None _ _ refl tt
    (either_offset (begins_with (λ b. b == greater_than_sign) (unscanned s)) (begins_with (λ b. b == greater_than_sign) (unscanned t))
    (Some (after_quote s)) (Some (after_quote t)) None None (same_quote s t a) (quote_alike s t a) tt)

quoted_alike : (f g : Option LineState) → PlaceAlike f g → FoundAlike (within_quote f) (within_quote g)
quoted_alike None None same = tt
quoted_alike None (Some q) same = absurd same
quoted_alike (Some p) None same = absurd same
quoted_alike (Some p) (Some q) same = (ap is_blank same.text, same)

same_width : (begun : Bool) (width : ℕ) (blank : Bool) (s t : LineState) → Alike s t
    → FoundAlike (within_width begun width blank s) (within_width begun width blank t)
same_width begun width true s t a = either_found begun begun None None (Some (true, s)) (Some (true, t)) refl tt (refl, a)
same_width begun width false s t a =
    either_found (space_within width s == width) (space_within width t == width) (Some (false, after_space width s)) (Some (false, after_space width t))
    None None (ap (λ n. n == width) (same_space s t a width)) (refl, space_alike s t a width) tt

same_within : (c : Container) (blank : Bool) (s t : LineState) → Alike s t → FoundAlike (within c blank s) (within c blank t)
same_within Quote blank s t a =
    subst (λ n. FoundAlike (within Quote blank s) (within_quote (past_quote n (after_space 4 t)))) (same_space s t a 4)
    (quoted_alike _ _ (after_alike (space_within 4 s) (after_space 4 s) (after_space 4 t) (space_alike s t a 4)))
same_within (Item item) blank s t a = same_width item.starts_blank item.width blank s t a
same_within Footnote blank s t a = same_width false 4 blank s t a
same_within (TermDefinition definition) blank s t a = same_width definition.starts_blank definition.width blank s t a

abbrev Go : List Container → Type 0
Go inner = (blank : Bool) (s t : LineState) → Alike s t → ((go_on blank inner s).kept ≡ (go_on blank inner t).kept)
    × Alike (go_on blank inner s).state (go_on blank inner t).state

same_step : (inner : List Container) (s t : LineState) (f g : Option (Bool × LineState)) → Go inner → Alike s t → FoundAlike f g
    → ((step_on inner s f).kept ≡ (step_on inner t g).kept) × Alike (step_on inner s f).state (step_on inner t g).state
same_step inner s t None None more a same = (refl, a)
same_step inner s t None (Some q) more a same = absurd same
same_step inner s t (Some p) None more a same = absurd same
same_step inner s t (Some p) (Some q) more a same =
    let on = more p.0 p.1 q.1 same.1 in
    let here : ((step_on inner s (Some p)).kept ≡ (step_on inner t (Some (p.0, q.1))).kept)
    × Alike (step_on inner s (Some p)).state (step_on inner t (Some (p.0, q.1))).state = (ap suc on.0, on.1) in
    subst (λ b. ((step_on inner s (Some p)).kept ≡ (step_on inner t (Some (b, q.1))).kept)
    × Alike (step_on inner s (Some p)).state (step_on inner t (Some (b, q.1))).state) same.0 here

pub same_on : (inner : List Container) → Go inner
same_on [] blank s t a = (refl, a)
same_on (c ∷ inner) blank s t a =
    same_step inner s t (within c blank s) (within c blank t) (same_on inner) a (same_within c blank s t a)
