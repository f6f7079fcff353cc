-- What begins where no byte of a marker stands, or one of an item's.
use Rattle.std.proofs.Common.{ℕ, Bool, true, false, ◌==◌, ◌||◌, ◌≡◌, List, [], ◌∷◌, Option, Some, None, refl, ap, sym, ◌∙◌, inl, inr}
use Rattle.std.specs.Prelude.{◌&&◌, drop, if◌then◌else◌, length, not, take_while}
use Rattle.std.proofs.lemmas.Bool.{cases_Bool, eqb-true}
use Rattle.markdown_scanners_tree.specs.Ascii.{colon, greater_than_sign, left_bracket}
use Rattle.markdown_scanners_tree.specs.Bytes.{begins_with, is_digit}
use Rattle.markdown_scanners_tree.specs.line.Outcome.{definition_outcome, not_found}
use Rattle.markdown_scanners_tree.specs.line.State.{LineState, unscanned}
use Rattle.markdown_scanners_tree.specs.scanners.list_items.ListMarker.{Marker, bullet_marker, is_bullet, list_marker, ordered_marker, ordered_marker_of}
use Rattle.markdown_scanners_tree.specs.scanners.Breaks.{is_thematic_break}
use Rattle.markdown_blocks.specs.containers.Containers.{begun_after, either_begun, extension_of, footnote_by, footnote_of, item_of}
use Rattle.markdown_blocks.specs.containers.Containers.{term_definition_by, term_definition_of}
use Rattle.markdown_blocks.specs.containers.Footnotes.{footnote_label}
use Rattle.markdown_blocks.specs.containers.ItemMarkers.{item_outcome, item_outcome_by}
use Rattle.markdown_blocks.specs.containers.private.Markers.{is_item_byte, is_other_byte}
use Rattle.markdown_values.specs.declared.values.extensions.Extensions.{Extensions}
use Rattle.markdown_blocks.specs.declared.containers.Container.{Container}

both_false : (a b : Bool) → (a || b) ≡ false → (a ≡ false) × (b ≡ false)
both_false true b h = cc
both_false false b h = (refl, h)

-- what begins only where an extension is on
gone : {A : Type 0} (on : Bool) (found : Option A) → (on ≡ true → found ≡ None) → (if on then found else None) ≡ None
gone true found none = none refl
gone false found none = refl

-- no marker of a list begins with a byte of no item
no_list_marker : (bytes : List ℕ) → begins_with is_item_byte bytes ≡ false → list_marker bytes ≡ None
no_list_marker [] none = refl
no_list_marker (b ∷ bytes) none =
    let plain = both_false (is_bullet b) (is_digit b) none in
    let bullet : bullet_marker (b ∷ bytes) ≡ None =
    ap (λ t. if t && not (is_thematic_break (b ∷ bytes)) then Some (record { width = 1; delimiter = b; start = 0 }) else None) plain.0 in
    let digits : take_while is_digit (b ∷ bytes) ≡ [] = rw plain.1 refl in
    ap (λ (m : Option Marker). elim m [ Some found ↦ Some found | None ↦ ordered_marker (b ∷ bytes) ]) bullet
    ∙ ap (λ ds. ordered_marker_of ds (drop (length ds) (b ∷ bytes))) digits

no_label_there : (bytes : List ℕ) → begins_with (λ b. b == left_bracket) bytes ≡ false → footnote_label bytes ≡ None
no_label_there [] none = refl
no_label_there (b ∷ []) none = refl
no_label_there (b ∷ c ∷ bytes) none = rw none refl

-- where none of the two bytes stands no extension begins
module _ (asked : Extensions) (indent : ℕ) (s : LineState)
    (no_bracket : asked.footnotes ≡ true → begins_with (λ b. b == left_bracket) (unscanned s) ≡ false)
    (no_colon : asked.definition_lists ≡ true → begins_with (λ b. b == colon) (unscanned s) ≡ false) where
  no_footnote : footnote_of asked s ≡ None
  no_footnote =
      gone asked.footnotes (footnote_by s (footnote_label (unscanned s))) (λ on. ap (footnote_by s) (no_label_there (unscanned s) (no_bracket on)))

  no_definition : asked.definition_lists ≡ true → definition_outcome indent s ≡ not_found s
  no_definition on = rw (no_colon on) refl

  no_term_definition : term_definition_of asked indent s ≡ None
  no_term_definition =
      gone asked.definition_lists (term_definition_by (definition_outcome indent s)) (λ on. ap term_definition_by (no_definition on))

  no_extension : extension_of asked indent s ≡ None
  no_extension = ap (λ f. either_begun f (term_definition_of asked indent s)) no_footnote ∙ no_term_definition

-- no byte of another marker begins one of an item
not_of_item : (b c : ℕ) → is_item_byte c ≡ false → is_item_byte b ≡ true → (b == c) ≡ false
not_of_item b c none item = elim (cases_Bool (b == c)) [
  | inl same ↦ let both : true ≡ false = sym item ∙ ap is_item_byte (eqb-true b c same) ∙ none in cc
  | inr other ↦ other
]

begins_with_other : (c : ℕ) (bytes : List ℕ) → is_item_byte c ≡ false → begins_with is_item_byte bytes ≡ true
    → begins_with (λ b. b == c) bytes ≡ false
begins_with_other c [] none item = cc
begins_with_other c (b ∷ bytes) none item = not_of_item b c none item

either_none : (first second : Option (Container × LineState)) → second ≡ None → either_begun first second ≡ first
either_none None second none = none
either_none (Some begun) second none = refl

-- where a byte of an item's marker stands, an item begins or nothing
pub item_begun : (asked : Extensions) (indent : ℕ) (s : LineState) → begins_with is_item_byte (unscanned s) ≡ true
    → (indent == 4) ≡ false → begun_after asked indent s ≡ item_of (item_outcome indent s)
item_begun asked indent s item near =
    rw (near, begins_with_other greater_than_sign (unscanned s) refl item)
    (either_none (item_of (item_outcome indent s)) (extension_of asked indent s)
    (no_extension asked indent s (λ on. begins_with_other left_bracket (unscanned s) refl item)
    (λ on. begins_with_other colon (unscanned s) refl item)))

-- a byte of no other marker
record Apart (asked : Extensions) (b : ℕ) : Type 0 where
  quote : (b == greater_than_sign) ≡ false
  bracket : (asked.footnotes && b == left_bracket) ≡ false
  colon : (asked.definition_lists && b == colon) ≡ false

apart : (asked : Extensions) (b : ℕ) → is_other_byte asked b ≡ false → Apart asked b
apart asked b none =
    let quote = both_false _ _ none in
    let bracket = both_false _ _ quote.1 in
    record { quote = quote.0; bracket = bracket.0; colon = bracket.1 }

module _ (asked : Extensions) (bytes : List ℕ) (none : begins_with (is_other_byte asked) bytes ≡ false) where
  no_quote_there : begins_with (λ b. b == greater_than_sign) bytes ≡ false
  no_quote_there = by bytes none
    where
      by : (bs : List ℕ) → begins_with (is_other_byte asked) bs ≡ false → begins_with (λ b. b == greater_than_sign) bs ≡ false
      by [] h = refl
      by (b ∷ bs) h = (apart asked b h).quote

  no_bracket_there : asked.footnotes ≡ true → begins_with (λ b. b == left_bracket) bytes ≡ false
  no_bracket_there on = by bytes none
    where
      by : (bs : List ℕ) → begins_with (is_other_byte asked) bs ≡ false → begins_with (λ b. b == left_bracket) bs ≡ false
      by [] h = refl
      by (b ∷ bs) h = rw on at (apart asked b h).bracket

  no_colon_there : asked.definition_lists ≡ true → begins_with (λ b. b == colon) bytes ≡ false
  no_colon_there on = by bytes none
    where
      by : (bs : List ℕ) → begins_with (is_other_byte asked) bs ≡ false → begins_with (λ b. b == colon) bs ≡ false
      by [] h = refl
      by (b ∷ bs) h = rw on at (apart asked b h).colon

-- where no byte of an item's marker stands, no item begins
pub other_begun : (asked : Extensions) (indent : ℕ) (s : LineState) → begins_with is_item_byte (unscanned s) ≡ false
    → either_begun (item_of (item_outcome indent s)) (extension_of asked indent s) ≡ extension_of asked indent s
other_begun asked indent s no_item =
    ap (λ m. either_begun (item_of (item_outcome_by indent s m)) (extension_of asked indent s)) (no_list_marker (unscanned s) no_item)

-- where no byte of a marker stands nothing begins
pub none_begun : (asked : Extensions) (indent : ℕ) (s : LineState) → begins_with is_item_byte (unscanned s) ≡ false
    → begins_with (is_other_byte asked) (unscanned s) ≡ false → begun_after asked indent s ≡ None
none_begun asked indent s no_item none = elim (cases_Bool (indent == 4)) [
  | inl far ↦ rw far refl
  | inr near ↦ rw (near, no_quote_there asked (unscanned s) none)
      (other_begun asked indent s no_item
      ∙ no_extension asked indent s (no_bracket_there asked (unscanned s) none) (no_colon_there asked (unscanned s) none))
]
