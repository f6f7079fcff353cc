-- A line goes on with containers, one after the other, and begins others.
use Rattle.std.proofs.Common.{suc, zero, ◌≤◌, List, [], ◌∷◌, ℕ, ◌-◌, take, drop, IsTrue, ◌↔◌, Bool}
use Rattle.std.specs.Prelude.{IfSome, IfNone, if◌then◌else◌}
use Rattle.std.proofs.Common.{true, false, not, ◌&&◌, ◌==◌, ◌≡◌, ◌<◌, length, Option, Some, None, is_some, refl, sym, ap, subst, ◌∙◌, arith}
use Rattle.std.specs.List.{list_all}
use Rattle.std.proofs.lemmas.Bool.{eqb-true}
use Rattle.markdown_scanners_tree.specs.Ascii.{colon, greater_than_sign}
use Rattle.markdown_scanners_tree.specs.Bytes.{begins_with}
use Rattle.markdown_scanners_tree.specs.line.Outcome.{Outcome, after_quote, definition_outcome, not_found}
use Rattle.markdown_scanners_tree.specs.line.State.{LineState, unscanned, space_within, after_space}
use Rattle.markdown_blocks.specs.blank_lines.BlankLines.{is_blank}
use Rattle.markdown_blocks.specs.containers.ItemMarkers.{item_outcome}
use Rattle.markdown_blocks.specs.declared.containers.Container.TheVariants.{Quote, Item, Footnote, TermDefinition}
use Rattle.markdown_values.specs.declared.values.extensions.Extensions.{Extensions}
use Rattle.markdown_blocks.specs.declared.containers.Container.{Container}
use Rattle.markdown_blocks.proofs.taken.TakenLemmas.{slice_after}
use Rattle.markdown_blocks.specs.containers.Containers.{goes_on_blank, go_on, LineMatch, past_quote, all_containers, begun_at}
use Rattle.markdown_blocks.specs.containers.Containers.{begun_after, either_begun, extension_of, footnote_by, item_of}
use Rattle.markdown_blocks.specs.containers.Containers.{term_definition_by, within_quote, within_width}
use Rattle.markdown_blocks.specs.containers.Footnotes.{footnote_label}

-- less than four columns
pub near : (indent : ℕ) → indent < 4 → (indent == 4) ≡ false
near indent h = grind arith

quote_here : (indent : ℕ) (s : LineState) → indent < 4 → begins_with (λ b. b == greater_than_sign) (unscanned s) ≡ true
    → within_quote (past_quote indent s) ≡ Some (is_blank (unscanned (after_quote s)), after_quote s)
quote_here indent s h marked = rw (near indent h, marked) refl

pub quote_passed : (s t after : LineState) (indent : ℕ) (blank : Bool) → indent ≡ space_within 4 s → t ≡ after_space 4 s → indent < 4
    → begins_with (λ b. b == greater_than_sign) (unscanned t) ≡ true → after ≡ after_quote t → blank ≡ is_blank (unscanned after)
    → within_quote (past_quote (space_within 4 s) (after_space 4 s)) ≡ Some (blank, after)
quote_passed s t after indent blank columns is few marked passed empty =
    let here : within_quote (past_quote indent t) ≡ Some (blank, after) =
    quote_here indent t few marked ∙ ap (λ z. Some (is_blank (unscanned z), z)) (sym passed) ∙ ap (λ b. Some (b, after)) (sym empty) in
    subst (λ n. within_quote (past_quote n (after_space 4 s)) ≡ Some (blank, after)) columns
    (subst (λ z. within_quote (past_quote indent z) ≡ Some (blank, after)) is here)

pub item_given : (found : Outcome (ℕ × ℕ × ℕ)) (after : LineState) (delimiter start width : ℕ) (begun : Bool) → Some (delimiter, start, width) ≡ found.answer
    → after ≡ found.state → begun ≡ is_blank (unscanned after)
    → item_of found ≡ Some (Item (record { delimiter = delimiter; start = start; width = width; starts_blank = begun }), after)
item_given found after delimiter start width begun answers is blank = rw (← answers, ← is, blank) refl

-- no block quote begins there
pub begun_other : (asked : Extensions) (indent : ℕ) (s t : LineState) → (indent == 4) ≡ false
    → begins_with (λ b. b == greater_than_sign) (unscanned s) ≡ false → t ≡ s
    → begun_after asked indent s ≡ either_begun (item_of (item_outcome indent t)) (extension_of asked indent t)
begun_other asked indent s t far other same =
    rw (far, other) (ap (λ z. either_begun (item_of (item_outcome indent z)) (extension_of asked indent z)) (sym same))

-- where the marker of a definition stands, no label of a footnote does
no_label : (bytes : List ℕ) → begins_with (λ b. b == colon) bytes ≡ true → footnote_label bytes ≡ None
no_label [] marked = cc
no_label (a ∷ []) marked = refl
no_label (a ∷ b ∷ bytes) marked = subst (λ x. footnote_label (x ∷ b ∷ bytes) ≡ None) (sym (eqb-true a colon marked)) refl

pub definition_marked : (indent : ℕ) (s : LineState) (r : Container × LineState) → term_definition_by (definition_outcome indent s) ≡ Some r
    → begins_with (λ b. b == colon) (unscanned s) ≡ true
definition_marked indent s r is = by (begins_with (λ b. b == colon) (unscanned s)) _ is
  where
    by : (marked : Bool) (found : Outcome ℕ) → term_definition_by (if marked then found else not_found s) ≡ Some r → marked ≡ true
    by true found is = refl
    by false found is = cc

-- what begins with some extensions on begins with all of them
extension_more : (footnotes lists : Bool) (footnote definition : Option (Container × LineState)) (r : Container × LineState)
    → ((q : Container × LineState) → definition ≡ Some q → footnote ≡ None)
    → either_begun (if footnotes then footnote else None) (if lists then definition else None) ≡ Some r → either_begun footnote definition ≡ Some r
extension_more true lists (Some f) definition r apart is = is
extension_more true true None definition r apart is = is
extension_more true false None definition r apart is = cc
extension_more false true footnote definition r apart is = ap (λ f. either_begun f definition) (apart r is) ∙ is
extension_more false false footnote definition r apart is = cc

extension_by_all : (asked : Extensions) (indent : ℕ) (s : LineState) (r : Container × LineState) → extension_of asked indent s ≡ Some r
    → extension_of all_containers indent s ≡ Some r
extension_by_all asked indent s r is =
    extension_more asked.footnotes asked.definition_lists (footnote_by s (footnote_label (unscanned s))) (term_definition_by (definition_outcome indent s)) r
    (λ q found. ap (footnote_by s) (no_label (unscanned s) (definition_marked indent s q found))) is

begun_more : (far here : Bool) (quote item some all : Option (Container × LineState)) (r : Container × LineState)
    → (some ≡ Some r → all ≡ Some r) → (if far then None else if here then quote else either_begun item some) ≡ Some r
    → (if far then None else if here then quote else either_begun item all) ≡ Some r
begun_more true here quote item some all r more is = is
begun_more false true quote item some all r more is = is
begun_more false false quote (Some begun) some all r more is = is
begun_more false false quote None some all r more is = more is

pub begun_by_all : (asked : Extensions) (s : LineState) (r : Container × LineState) → begun_at asked s ≡ Some r → begun_at all_containers s ≡ Some r
begun_by_all asked s r is =
    let t = after_space 4 s in
    let n = space_within 4 s in
    begun_more (n == 4) (begins_with (λ b. b == greater_than_sign) (unscanned t)) (Some (Quote, after_quote t)) (item_of (item_outcome n t))
    (extension_of asked n t) (extension_of all_containers n t) r (extension_by_all asked n t r) is

-- the container that a line begins, where its rest is passed
pub begun_given : (asked : Extensions) (s t after : LineState) (indent : ℕ) (r : Option Container) → indent ≡ space_within 4 s → t ≡ after_space 4 s
    → IfSome r (λ container. begun_after asked indent t ≡ Some (container, after)) → IfNone r (begun_after asked indent t ≡ None)
    → is_some r ≡ is_some (begun_at asked s)
begun_given asked s t after indent r columns is found none = subst (λ n. is_some r ≡ is_some (begun_after asked n (after_space 4 s))) columns
    (subst (λ z. is_some r ≡ is_some (begun_after asked indent z)) is (by r found none))
  where
    by : (r : Option Container) → IfSome r (λ container. begun_after asked indent t ≡ Some (container, after)) → IfNone r (begun_after asked indent t ≡ None)
        → is_some r ≡ is_some (begun_after asked indent t)
    by None found none = sym (ap is_some none)
    by (Some container) found none = sym (ap is_some found)

-- the marker's test fails, and nothing is passed
pub no_marker : (r : Bool) (b : Bool) → r ≡ false → (IsTrue r ↔ (b ≡ true)) → b ≡ false
no_marker r true fails tells = let passes = tells.1 refl in cc
no_marker r false fails tells = refl

pub no_quote : (s after : LineState) → begins_with (λ b. b == greater_than_sign) (unscanned s) ≡ false → after ≡ after_quote s → after ≡ s
no_quote s after other is = rw other at is

-- what is left of the line from a position on
pub rest_at_offset : (line : List ℕ) (s : LineState) (p : ℕ) → s.bytes ≡ line → p ≡ s.offset → unscanned s ≡ take (length line - p) (drop p line)
rest_at_offset line s p same offset = sym (slice_after line p ∙ rw (same, offset) refl)

-- that is blank
pub blank_at : (line : List ℕ) (s : LineState) (p : ℕ) (blank : Bool) → s.bytes ≡ line → p ≡ s.offset → blank ≡ is_blank (take (length line - p) (drop p line))
    → blank ≡ is_blank (unscanned s)
blank_at line s p blank same offset is = is ∙ ap is_blank (sym (rest_at_offset line s p same offset))

-- a line after a container, by what it has of that
abbrev pub step_on : List Container → LineState → Option (Bool × LineState) → LineMatch
step_on inner s found = elim found [
  | Some r ↦ (let more = go_on r.0 inner r.1 in record { kept = suc more.kept; state = more.state })
  | None ↦ record { kept = 0; state = s }
]

-- containers that go on with blank lines
abbrev GoesOn : List Container → LineState → Type 0
GoesOn cs s = go_on true cs s ≡ record { kept = length cs; state = s }

plain_width : (begun : Bool) (width : ℕ) (cs : List Container) (s : LineState) → (list_all goes_on_blank cs ≡ true → GoesOn cs s)
    → (not begun && list_all goes_on_blank cs) ≡ true
    → step_on cs s (within_width begun width true s) ≡ record { kept = suc (length cs); state = s }
plain_width true width cs s later all = cc
plain_width false width cs s later all = ap (λ (b : LineMatch). record { kept = suc b.kept; state = b.state }) (later all)

pub plain_on : (cs : List Container) (s : LineState) → list_all goes_on_blank cs ≡ true → GoesOn cs s
plain_on [] s all = refl
plain_on (Quote ∷ cs) s all = cc
plain_on (Footnote ∷ cs) s all = plain_width false 4 cs s (plain_on cs s) all
plain_on (Item item ∷ cs) s all = plain_width item.starts_blank item.width cs s (plain_on cs s) all
plain_on (TermDefinition definition ∷ cs) s all = plain_width definition.starts_blank definition.width cs s (plain_on cs s) all

-- from an offset on, and so after it
plain_after : (plain kept : ℕ) (cs : List Container) → plain ≤ kept → list_all goes_on_blank (drop plain cs) ≡ true
    → list_all goes_on_blank (drop kept cs) ≡ true
plain_after zero zero cs low all = all
plain_after zero (suc kept) [] low all = refl
plain_after zero (suc kept) (c ∷ cs) low all = plain_after zero kept cs (omega arith) (by (goes_on_blank c) refl)
  where
    by : (b : Bool) → goes_on_blank c ≡ b → list_all goes_on_blank cs ≡ true
    by true is = rw is at all
    by false is = let none : list_all goes_on_blank (c ∷ cs) ≡ false = rw is refl in cc
plain_after (suc plain) zero cs low all = absurd (omega arith)
plain_after (suc plain) (suc kept) [] low all = refl
plain_after (suc plain) (suc kept) (c ∷ cs) low all = plain_after plain kept cs (omega arith) all

pub plain_rest : (blank : Bool) (plain kept : ℕ) (cs rest : List Container) (s : LineState) → blank ≡ true → plain ≤ kept
    → list_all goes_on_blank (drop plain cs) ≡ true → rest ≡ drop kept cs → go_on blank rest s ≡ record { kept = length rest; state = s }
plain_rest false plain kept cs rest s is low all at = cc
plain_rest true plain kept cs rest s is low all at =
    plain_on rest s (ap (list_all goes_on_blank) at ∙ plain_after plain kept cs low all)
