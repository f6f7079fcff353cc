-- Containers of which more than the first line is read: a line goes on with them as before, and where its rest is not blank each is so.
use Rattle.std.proofs.Common.{ℕ, zero, suc, Bool, true, false, ◌||◌, ◌==◌, ◌+◌, ◌-◌, ◌≡◌, List, [], ◌∷◌, ◌++◌, take, drop, map}
use Rattle.std.proofs.Common.{one-add, Option, Some, None, refl, sym, ap, ◌∙◌, subst, inl, inr, arith}
use Rattle.std.specs.Prelude.{⊤}
use Rattle.std.specs.List.{AllByRecursion}
use Rattle.std.proofs.lemmas.Bool.{lt-ltb}
use Rattle.std.proofs.lemmas.Bool.Decides.{leb_tells, nat_tests}
use Rattle.std.proofs.lemmas.List.{drop-drop}
use Rattle.markdown_scanners_tree.specs.Ascii.{colon, greater_than_sign, left_bracket}
use Rattle.markdown_scanners_tree.specs.Bytes.{begins_with, is_digit, is_line_ending, is_space_or_tab}
use Rattle.markdown_scanners_tree.specs.Columns.{bytes_below, column_after}
use Rattle.markdown_scanners_tree.specs.line.Outcome.{after_quote, definition_outcome}
use Rattle.markdown_scanners_tree.specs.line.State.{LineState, after_space, bytes_for, space_within, unscanned}
use Rattle.markdown_scanners_tree.specs.scanners.list_items.ListMarker.{bullet_marker, is_bullet, list_marker, ordered_marker}
use Rattle.markdown_scanners_tree.proofs.PrefixLemmas.{both_true}
use Rattle.markdown_scanners_tree.proofs.line.ColumnLemmas.{below-cons, bool_cases, none_below}
use Rattle.markdown_blocks.specs.blank_lines.BlankLines.{is_blank}
use Rattle.markdown_blocks.specs.containers.Containers.{Opens, all_containers, begun_at, extension_of, footnote_by, footnote_of, go_on}
use Rattle.markdown_blocks.specs.containers.Containers.{item_of, past_first_line, last_past_first_line, term_definition_by, term_definition_of, within}
use Rattle.markdown_blocks.specs.containers.Containers.{within_width, without_terms}
use Rattle.markdown_blocks.specs.containers.Footnotes.{past_footnote, footnote_label}
use Rattle.markdown_blocks.specs.containers.ItemMarkers.{item_outcome}
use Rattle.markdown_values.specs.declared.values.extensions.Extensions.{Extensions}
use Rattle.markdown_blocks.specs.declared.containers.Container.{Container}
use Rattle.markdown_blocks.specs.declared.containers.Container.TheVariants.{Quote, Item, Footnote, TermDefinition}
use Rattle.markdown_blocks.proofs.containers.ContainerLemmas.{begun_by_all, step_on}
use Rattle.markdown_blocks.proofs.events.LabelLemmas.{begun_is, either_is, one_is}

-- ---- a line goes on with them

width_settled : (begun : Bool) (width : ℕ) (blank : Bool) (s : LineState) (r : Bool × LineState) → within_width begun width blank s ≡ Some r
    → within_width false width blank s ≡ Some r
width_settled true width true s r is = cc
width_settled false width true s r is = is
width_settled begun width false s r is = is

within_settled : (c : Container) (blank : Bool) (s : LineState) (r : Bool × LineState) → within c blank s ≡ Some r
    → within (past_first_line c) blank s ≡ Some r
within_settled Quote blank s r is = is
within_settled Footnote blank s r is = is
within_settled (Item item) blank s r is = width_settled item.starts_blank item.width blank s r is
within_settled (TermDefinition definition) blank s r is = width_settled definition.starts_blank definition.width blank s r is

pub settled_on : (blank : Bool) (outer : List Container) (s : LineState)
    → (go_on blank (map past_first_line (take (go_on blank outer s).kept outer)) s).state ≡ (go_on blank outer s).state
settled_on blank [] s = refl
settled_on blank (c ∷ inner) s = by (within c blank s) refl (λ b t. settled_on b inner t)
  where
    by : (found : Option (Bool × LineState)) → within c blank s ≡ found
        → ((b : Bool) (t : LineState) → (go_on b (map past_first_line (take (go_on b inner t).kept inner)) t).state ≡ (go_on b inner t).state)
        → (go_on blank (map past_first_line (take (step_on inner s found).kept (c ∷ inner))) s).state ≡ (step_on inner s found).state
    by None is later = refl
    by (Some r) is later =
        ap (λ f. (step_on (map past_first_line (take (go_on r.0 inner r.1).kept inner)) s f).state) (within_settled c blank s r is) ∙ later r.0 r.1

settled_twice : (c : Container) → past_first_line (past_first_line c) ≡ past_first_line c
settled_twice Quote = refl
settled_twice Footnote = refl
settled_twice (Item item) = refl
settled_twice (TermDefinition definition) = refl

pub last_settled : (outer : List Container) → map past_first_line (last_past_first_line outer) ≡ map past_first_line outer
last_settled [] = refl
last_settled (c ∷ []) = ap (λ d. d ∷ []) (settled_twice c)
last_settled (c ∷ d ∷ outer) = ap (λ cs. past_first_line c ∷ cs) (last_settled (d ∷ outer))

-- ---- all are so

abbrev pub AreSettled : List Container → Type 0
AreSettled outer = AllByRecursion (λ c. past_first_line c ≡ c) outer

pub all_settled : (outer : List Container) → AreSettled outer → map past_first_line outer ≡ outer
all_settled [] all = refl
all_settled (c ∷ outer) all = ap (λ d. d ∷ map past_first_line outer) all.0 ∙ ap (λ cs. c ∷ cs) (all_settled outer all.1)

-- all but the last
abbrev pub FrontSettled : List Container → Type 0
FrontSettled [] = ⊤
FrontSettled (c ∷ []) = ⊤
FrontSettled (c ∷ d ∷ outer) = (past_first_line c ≡ c) × FrontSettled (d ∷ outer)

front_take : (n : ℕ) (outer : List Container) → FrontSettled outer → FrontSettled (take n outer)
front_take zero outer front = tt
front_take (suc n) [] front = tt
front_take (suc n) (c ∷ []) front = by n
  where
    by : (n : ℕ) → FrontSettled (c ∷ take n [])
    by zero = tt
    by (suc n) = tt
front_take (suc zero) (c ∷ d ∷ outer) front = tt
front_take (suc (suc n)) (c ∷ d ∷ outer) front = (front.0, front_take (suc n) (d ∷ outer) front.1)

last_too : (outer : List Container) → FrontSettled outer → AreSettled (last_past_first_line outer)
last_too [] front = tt
last_too (c ∷ []) front = (settled_twice c, tt)
last_too (c ∷ d ∷ outer) front = (front.0, last_too (d ∷ outer) front.1)

pub kept_settled : (n : ℕ) (outer : List Container) → FrontSettled outer → AreSettled (last_past_first_line (take n outer))
kept_settled n outer front = last_too (take n outer) (front_take n outer front)

pub both_settled : (outer inner : List Container) → AreSettled outer → AreSettled inner → AreSettled (outer ++ inner)
both_settled [] inner all more = more
both_settled (c ∷ outer) inner all more = (all.0, both_settled outer inner all.1 more)

pub front_both : (outer inner : List Container) → AreSettled outer → FrontSettled inner → FrontSettled (outer ++ inner)
front_both [] inner all front = front
front_both (c ∷ []) [] all front = tt
front_both (c ∷ []) (d ∷ inner) all front = (all.0, front)
front_both (c ∷ d ∷ outer) inner all front = (all.0, front_both (d ∷ outer) inner all.1 front)

-- the last of such containers, and of those that are left of others with such after them
settled_end : (outer : List Container) → AreSettled outer → last_past_first_line outer ≡ outer
settled_end [] all = refl
settled_end (c ∷ []) all = ap (λ d. d ∷ []) all.0
settled_end (c ∷ d ∷ outer) all = ap (λ cs. c ∷ cs) (settled_end (d ∷ outer) all.1)

pub settled_again : (outer inner : List Container) → AreSettled inner → last_past_first_line (last_past_first_line outer ++ inner) ≡ last_past_first_line outer ++ inner
settled_again [] inner all = settled_end inner all
settled_again (c ∷ []) [] all = ap (λ d. d ∷ []) (settled_twice c)
settled_again (c ∷ []) (d ∷ inner) all = ap (λ cs. past_first_line c ∷ cs) (settled_end (d ∷ inner) all)
settled_again (c ∷ d ∷ []) inner all = ap (λ cs. c ∷ cs) (settled_again (d ∷ []) inner all)
settled_again (c ∷ d ∷ e ∷ outer) inner all = ap (λ cs. c ∷ cs) (settled_again (d ∷ e ∷ outer) inner all)

-- ---- what begins

-- after a byte of a blank rest that ends no line, the rest is blank
blank_tail : (b : ℕ) (bs : List ℕ) → is_line_ending b ≡ false → is_blank (b ∷ bs) ≡ true → is_blank bs ≡ true
blank_tail b bs goes blank = (both_true (is_space_or_tab b) (is_blank bs) (rw (goes, one-add) at blank)).1

-- and so it is after space
blank_below : (bs : List ℕ) (c k : ℕ) → is_blank bs ≡ true → is_blank (drop (bytes_below c bs k) bs) ≡ true
blank_below [] c k blank = blank
blank_below (b ∷ bs) c k blank =
    bool_cases (is_line_ending b)
    (λ ends. let none : bytes_below c (b ∷ bs) k ≡ 0 = rw ends refl in subst (λ n. is_blank (drop n (b ∷ bs)) ≡ true) (sym none) blank)
    (λ goes. elim (leb_tells k c) [
      | inl far ↦ subst (λ n. is_blank (drop n (b ∷ bs)) ≡ true) (sym (none_below (b ∷ bs) c k far.1)) blank
      | inr near ↦ (let more : bytes_below c (b ∷ bs) k ≡ suc (bytes_below (column_after c b) bs k) =
          below-cons c b bs k goes ∙ rw (lt-ltb c k near.1) (omega arith) in
          subst (λ n. is_blank (drop n (b ∷ bs)) ≡ true) (sym more) (blank_below bs (column_after c b) k (blank_tail b bs goes blank)))
    ])

pub blank_after : (n : ℕ) (s : LineState) → is_blank (unscanned s) ≡ true → is_blank (unscanned (after_space n s)) ≡ true
blank_after n s blank =
    let m = bytes_for (space_within n s) s in
    subst (λ (t : List ℕ). is_blank t ≡ true) (drop-drop m s.offset s.bytes)
    (blank_below (unscanned s) s.phase (s.phase + space_within n s - s.pending) blank)

-- no marker stands in a blank rest
white_first : (b : ℕ) (bs : List ℕ) → is_blank (b ∷ bs) ≡ true → (is_space_or_tab b || is_line_ending b) ≡ true
white_first b bs blank =
    bool_cases (is_line_ending b)
    (λ ends. rw ends (or_true (is_space_or_tab b)))
    (λ goes. rw (goes, (both_true (is_space_or_tab b) (is_blank bs) (rw (goes, one-add) at blank)).0) refl)
  where
    or_true : (t : Bool) → (t || true) ≡ true
    or_true true = refl
    or_true false = refl

-- no marker of a container begins with such a byte
record IsNoMarker (text : List ℕ) : Type 0 where
  no_quote : begins_with (λ b. b == greater_than_sign) text ≡ false
  no_item : list_marker text ≡ None
  no_label : footnote_label text ≡ None
  no_colon : begins_with (λ b. b == colon) text ≡ false

none_in_blank : (text : List ℕ) → is_blank text ≡ true → IsNoMarker text
none_in_blank [] blank = record { no_quote = refl; no_item = refl; no_label = refl; no_colon = refl }
none_in_blank (b ∷ bs) blank =
    let white = white_first b bs blank in
    let no_bullet : is_bullet b ≡ false = grind (arith, nat_tests) in
    let no_digit : is_digit b ≡ false = grind (arith, nat_tests) in
    let no_bracket : (b == left_bracket) ≡ false = grind (arith, nat_tests) in
    let bullet : bullet_marker (b ∷ bs) ≡ None = rw no_bullet refl in
    let ordered : ordered_marker (b ∷ bs) ≡ None = rw no_digit refl in
    record {
      no_quote = grind (arith, nat_tests);
      no_item = rw (bullet, list_marker) ordered;
      no_label = by bs no_bracket;
      no_colon = grind (arith, nat_tests);
    }
  where
    by : (bs : List ℕ) → (b == left_bracket) ≡ false → footnote_label (b ∷ bs) ≡ None
    by [] other = refl
    by (c ∷ bs) other = rw other refl

pub none_begins : (s : LineState) (r : Container × LineState) → is_blank (unscanned s) ≡ true → ¬ (begun_at all_containers s ≡ Some r)
none_begins s r blank is =
    let none = none_in_blank (unscanned (after_space 4 s)) (blank_after 4 s blank) in
    bool_cases (space_within 4 s == 4)
    (λ far. let no : ◌≡◌ {A = Option (Container × LineState)} None (Some r) = rw far at is in cc)
    (λ few. let no : ◌≡◌ {A = Option (Container × LineState)} None (Some r) =
    rw (few, none.no_quote, none.no_item, none.no_label, none.no_colon) at is in cc)

-- a container whose rest is not blank
abbrev IsFilled : Container × LineState → Type 0
IsFilled r = is_blank (unscanned r.1) ≡ false → past_first_line r.0 ≡ r.0

item_filled : (answer : Option (ℕ × ℕ × ℕ)) (after : LineState) (r : Container × LineState)
    → item_of (record { answer = answer; state = after }) ≡ Some r → IsFilled r
item_filled None after r is = cc
item_filled (Some a) after r is =
    one_is IsFilled (Item (record { delimiter = a.0; start = a.1; width = a.2; starts_blank = is_blank (unscanned after) }), after) r is
    (λ full. ap (λ b. Item (record { delimiter = a.0; start = a.1; width = a.2; starts_blank = b })) (sym full))

label_filled : (t : LineState) (label : Option (List ℕ)) (r : Container × LineState) → footnote_by t label ≡ Some r → IsFilled r
label_filled t None r is = cc
label_filled t (Some l) r is = one_is IsFilled (Footnote, past_footnote l t) r is (λ full. refl)

definition_filled : (answer : Option ℕ) (after : LineState) (r : Container × LineState)
    → term_definition_by (record { answer = answer; state = after }) ≡ Some r → IsFilled r
definition_filled None after r is = cc
definition_filled (Some width) after r is =
    one_is IsFilled (TermDefinition (record { starts_blank = is_blank (unscanned after); width = width }), after) r is
    (λ full. ap (λ b. TermDefinition (record { starts_blank = b; width = width })) (sym full))

begun_filled : (s : LineState) (r : Container × LineState) → begun_at all_containers s ≡ Some r → IsFilled r
begun_filled s =
    let t = after_space 4 s in
    let n = space_within 4 s in
    begun_is IsFilled (n == 4) (begins_with (λ b. b == greater_than_sign) (unscanned t)) (Some (Quote, after_quote t)) _
    (λ r is. one_is IsFilled (Quote, after_quote t) r is (λ full. refl))
    (either_is IsFilled (item_of (item_outcome n t)) (extension_of all_containers n t)
    (item_filled (item_outcome n t).answer (item_outcome n t).state)
    (either_is IsFilled (footnote_of all_containers t) (term_definition_of all_containers n t) (label_filled t (footnote_label (unscanned t)))
    (definition_filled (definition_outcome n t).answer (definition_outcome n t).state)))

pub filled : (b : Bool) → (b ≡ true → ⊥) → b ≡ false
filled true none = absurd (none refl)
filled false none = refl

-- the containers that a line begins
pub opened_settled : (asked : Extensions) (s last : LineState) (begun : List Container) → Opens asked s begun last
    → is_blank (unscanned last) ≡ false → AreSettled begun
opened_settled asked s last [] opens full = tt
opened_settled asked s last (c ∷ inner) (next, begun, opens) full = (
  begun_filled s (c, next) (begun_by_all asked s (c, next) begun) (still inner opens),
  opened_settled (without_terms asked) next last inner opens full,
)
  where
    still : (inner : List Container) → Opens (without_terms asked) next inner last → is_blank (unscanned next) ≡ false
    still [] opens = subst (λ (z : LineState). is_blank (unscanned z) ≡ false) opens.1 full
    still (d ∷ inner) opens = filled (is_blank (unscanned next))
        (λ blank. none_begins next (d, opens.0) blank (begun_by_all (without_terms asked) next (d, opens.0) opens.1))

pub opened_front : (asked : Extensions) (s last : LineState) (begun : List Container) → Opens asked s begun last → FrontSettled begun
opened_front asked s last [] opens = tt
opened_front asked s last (c ∷ []) opens = tt
opened_front asked s last (c ∷ d ∷ inner) (next, begun, opens) = (
  begun_filled s (c, next) (begun_by_all asked s (c, next) begun) (filled (is_blank (unscanned next))
      (λ blank. none_begins next (d, opens.0) blank (begun_by_all (without_terms asked) next (d, opens.0) opens.1))),
  opened_front (without_terms asked) next last (d ∷ inner) opens,
)
