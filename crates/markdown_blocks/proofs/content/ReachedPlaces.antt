-- The offsets after containers are reached, and what a line has of a content stands in it there.
use Rattle.std.proofs.Common.{ℕ, zero, suc, Bool, true, false, not, ◌&&◌, ◌==◌, ◌+◌, ◌-◌}
use Rattle.std.proofs.Common.{◌<◌, ◌≤◌, ◌≡◌, List, [], ◌∷◌, length, take, take_while, drop, get_or, nat_le, nat_lt}
use Rattle.std.proofs.Common.{Option, Some, None, refl, sym, ap, ◌∙◌, subst, arith}
use Rattle.std.specs.Str.Parse.{digits_value}
use Rattle.std.proofs.lemmas.Bool.Decides.{nat_tests}
use Rattle.std.specs.List.{prefix_len}
use Rattle.std.proofs.lemmas.List.{get_or-drop, length-drop, length-take}
use Rattle.std.proofs.lemmas.List.Sums.{prefix_len-le-length}
use Rattle.markdown_scanners_tree.specs.Ascii.{colon, greater_than_sign, left_bracket}
use Rattle.markdown_scanners_tree.specs.Bytes.{begins_with, is_digit}
use Rattle.markdown_scanners_tree.specs.line.ItemRules.{start_of}
use Rattle.markdown_scanners_tree.specs.line.Outcome.{after_all_space, definition_outcome}
use Rattle.markdown_scanners_tree.specs.line.Outcome.{space_or_end_follows}
use Rattle.markdown_scanners_tree.specs.line.PlainStep.{definition_spaces}
use Rattle.markdown_scanners_tree.specs.line.State.{LineState, after_space, bytes_further, leading_spaces, rest_of, space_within, unscanned}
use Rattle.markdown_scanners_tree.specs.scanners.Breaks.{is_thematic_break}
use Rattle.markdown_scanners_tree.specs.scanners.list_items.ListMarker.{Marker, bullet_marker, is_bullet}
use Rattle.markdown_scanners_tree.specs.scanners.list_items.ListMarker.{is_delimiter, list_marker, ordered_marker_of}
use Rattle.markdown_scanners_tree.proofs.line.ColumnLemmas.{bool_cases}
use Rattle.markdown_blocks.specs.blank_lines.BlankLines.{is_blank}
use Rattle.markdown_blocks.specs.containers.Containers.{all_containers, begun_at, match_line, either_begun, extension_of}
use Rattle.markdown_blocks.specs.containers.Containers.{footnote_by, footnote_of, go_on, item_of, term_definition_by, term_definition_of, within, within_width}
use Rattle.markdown_blocks.specs.containers.Footnotes.{circumflex, closes_label, footnote_label, is_label_byte}
use Rattle.markdown_blocks.specs.containers.ItemMarkers.{further_spaces, item_outcome, item_outcome_by}
use Rattle.markdown_blocks.specs.content.Parts.{after_containers, after_indent, after_markers, after_width, first_offset, later_offset, text_offset}
use Rattle.markdown_blocks.specs.declared.blocks.BlockKind.{BlockKind}
use Rattle.markdown_blocks.specs.declared.blocks.BlockKind.TheVariants.{Blank, Break, Heading, Setext, Indented}
use Rattle.markdown_blocks.specs.declared.blocks.BlockKind.TheVariants.{Fenced, Html, Table, Definition, Paragraph}
use Rattle.markdown_blocks.specs.declared.containers.Container.{Container}
use Rattle.markdown_blocks.specs.declared.containers.Container.TheVariants.{Quote, Item, Footnote, TermDefinition}
use Rattle.markdown_blocks.proofs.containers.ContainerLemmas.{definition_marked}
use Rattle.markdown_blocks.proofs.content.ReachedLemmas.{Reached, after_all, after_bytes, after_some, all_taken, at_start}
use Rattle.markdown_blocks.proofs.content.parts.PlaceLemmas.{goes-some, marks-none, marks-some, stays-none}

none_some : {A B : Type 0} (x : A) → None ≡ Some x → B
none_some x is = absurd cc

-- a marker has no more bytes than stand there
bullet_width : (r : List ℕ) (m : Marker) → bullet_marker r ≡ Some m → m.width ≤ length r
bullet_width [] m is = none_some m is
bullet_width (b ∷ bs) m is =
    bool_cases (is_bullet b && not (is_thematic_break (b ∷ bs)))
    (λ all.
    let found : Some (record { width = 1; delimiter = b; start = 0 }) ≡ Some m = rw all at is in
    let width : 1 ≡ m.width = ap (λ (o : Option Marker). width_of o) found in
    omega (arith, width))
    (λ other. none_some m (rw other at is))
  where
    width_of : Option Marker → ℕ
    width_of None = 0
    width_of (Some n) = n.width

ordered_width : (r digits rest : List ℕ) (m : Marker) → length digits + length rest ≤ length r → ordered_marker_of digits rest ≡ Some m
    → m.width ≤ length r
ordered_width r digits [] m fits is = none_some m is
ordered_width r digits (d ∷ rest) m fits is =
    bool_cases (nat_le 1 (length digits) && nat_le (length digits) 9 && is_delimiter d)
    (λ all.
    let found : Some (record { width = length digits + 1; delimiter = d; start = digits_value 10 digits }) ≡ Some m = rw all at is in
    let width : length digits + 1 ≡ m.width = ap (λ (o : Option Marker). width_of o) found in
    omega (arith, width, fits))
    (λ other. none_some m (rw other at is))
  where
    width_of : Option Marker → ℕ
    width_of None = 0
    width_of (Some n) = n.width

marker_width : (r : List ℕ) (m : Marker) → list_marker r ≡ Some m → m.width ≤ length r
marker_width r m is = by (bullet_marker r) refl
  where
    by : (o : Option Marker) → bullet_marker r ≡ o → m.width ≤ length r
    by (Some n) bullet =
        let same : Some n ≡ Some m = rw (bullet, list_marker) at is in bullet_width r m (bullet ∙ same)
    by None bullet =
        let digits = take_while is_digit r in
        let few = length-take (prefix_len is_digit r) r in
        ordered_width r digits (drop (length digits) r) m (omega (arith, few, length-drop (length digits) r)) (rw (bullet, list_marker) at is)

-- a marker has a byte, and its last one is ASCII
bullet_low : (r : List ℕ) (m : Marker) → bullet_marker r ≡ Some m → (1 ≤ m.width) × (get_or r (m.width - 1) 0 < 128)
bullet_low [] m is = none_some m is
bullet_low (b ∷ bs) m is =
    bool_cases (is_bullet b && not (is_thematic_break (b ∷ bs)))
    (λ all.
    let found : Some (record { width = 1; delimiter = b; start = 0 }) ≡ Some m = rw all at is in
    let same : record { width = 1; delimiter = b; start = 0 } ≡ m = cc in
    let low : b < 128 = grind (arith, nat_tests) in
    subst (λ (n : Marker). (1 ≤ n.width) × (get_or (b ∷ bs) (n.width - 1) 0 < 128)) same (omega arith, low))
    (λ other. none_some m (rw other at is))

ordered_low : (r digits rest : List ℕ) (m : Marker) → drop (length digits) r ≡ rest → ordered_marker_of digits rest ≡ Some m
    → (1 ≤ m.width) × (get_or r (m.width - 1) 0 < 128)
ordered_low r digits [] m there is = none_some m is
ordered_low r digits (d ∷ rest) m there is =
    bool_cases (nat_le 1 (length digits) && nat_le (length digits) 9 && is_delimiter d)
    (λ all.
    let found : Some (record { width = length digits + 1; delimiter = d; start = digits_value 10 digits }) ≡ Some m = rw all at is in
    let same : record { width = length digits + 1; delimiter = d; start = digits_value 10 digits } ≡ m = cc in
    let low : d < 128 = grind (arith, nat_tests) in
    let offset : length digits + 0 ≡ length digits + 1 - 1 = omega arith in
    let byte : d ≡ get_or r (length digits + 1 - 1) 0 =
    ap (λ t. get_or t 0 0) (sym there) ∙ get_or-drop (length digits) r 0 0 ∙ ap (λ n. get_or r n 0) offset in
    subst (λ (n : Marker). (1 ≤ n.width) × (get_or r (n.width - 1) 0 < 128)) same (omega arith, subst (λ b. b < 128) byte low))
    (λ other. none_some m (rw other at is))

pub marker_low : (r : List ℕ) (m : Marker) → list_marker r ≡ Some m → (1 ≤ m.width) × (get_or r (m.width - 1) 0 < 128)
marker_low r m is = by (bullet_marker r) refl
  where
    by : (o : Option Marker) → bullet_marker r ≡ o → (1 ≤ m.width) × (get_or r (m.width - 1) 0 < 128)
    by (Some n) bullet =
        let same : Some n ≡ Some m = rw (bullet, list_marker) at is in bullet_low r m (bullet ∙ same)
    by None bullet =
        let digits = take_while is_digit r in
        ordered_low r digits (drop (length digits) r) m refl (rw (bullet, list_marker) at is)

-- nor has the marker of a footnote definition
last_of : (x y z w : Bool) → (x && y && z && w) ≡ true → w ≡ true
last_of true true true w is = is
last_of true true false w is = cc
last_of true false z w is = cc
last_of false y z w is = cc

two_close : (bytes : List ℕ) → closes_label bytes ≡ true → 2 ≤ length bytes
two_close [] is = cc
two_close (a ∷ []) is = cc
two_close (a ∷ b ∷ rest) is = omega arith

label_width : (text label : List ℕ) → footnote_label text ≡ Some label → length label + 4 ≤ length text
label_width [] label is = none_some label is
label_width (a ∷ []) label is = none_some label is
label_width (a ∷ b ∷ rest) label is =
    let n = prefix_len is_label_byte rest in
    bool_cases (a == left_bracket && b == circumflex && nat_lt 0 n && closes_label (drop n rest))
    (λ all.
    let found : Some (take n rest) ≡ Some label = rw all at is in
    let width : length (take n rest) ≡ length label = ap (λ (o : Option (List ℕ)). width_of o) found in
    let closed = two_close (drop n rest) (last_of (a == left_bracket) (b == circumflex) (nat_lt 0 n) (closes_label (drop n rest)) all) in
    omega (arith, width, length-take n rest, length-drop n rest, closed))
    (λ other. none_some label (rw other at is))
  where
    width_of : Option (List ℕ) → ℕ
    width_of None = 0
    width_of (Some l) = length l

two_low : (bytes : List ℕ) → closes_label bytes ≡ true → get_or bytes 1 0 < 128
two_low [] is = cc
two_low (a ∷ []) is = cc
two_low (a ∷ b ∷ rest) is = grind (arith, nat_tests)

label_low : (text label : List ℕ) → footnote_label text ≡ Some label → get_or text (length label + 4 - 1) 0 < 128
label_low [] label is = none_some label is
label_low (a ∷ []) label is = none_some label is
label_low (a ∷ b ∷ rest) label is =
    let n = prefix_len is_label_byte rest in
    bool_cases (a == left_bracket && b == circumflex && nat_lt 0 n && closes_label (drop n rest))
    (λ all.
    let found : Some (take n rest) ≡ Some label = rw all at is in
    let width : length (take n rest) ≡ length label = ap (λ (o : Option (List ℕ)). width_of o) found in
    let closed = two_low (drop n rest) (last_of (a == left_bracket) (b == circumflex) (nat_lt 0 n) (closes_label (drop n rest)) all) in
    let offset : suc (suc (n + 1)) ≡ length label + 4 - 1 = omega (arith, width, length-take n rest, prefix_len-le-length is_label_byte rest) in
    subst (λ k. get_or (a ∷ b ∷ rest) k 0 < 128) offset (subst (λ c. c < 128) (get_or-drop n rest 1 0) closed))
    (λ other. none_some label (rw other at is))
  where
    width_of : Option (List ℕ) → ℕ
    width_of None = 0
    width_of (Some l) = length l

abbrev state_in : {A : Type 0} → LineState → Option (A × LineState) → LineState
state_in s None = s
state_in s (Some r) = r.1

-- a text that begins with a byte has one
some_byte : (is : ℕ → Bool) (bytes : List ℕ) → begins_with is bytes ≡ true → 1 ≤ length bytes
some_byte is [] begins = cc
some_byte is (b ∷ bytes) begins = omega arith

first_low : (is : ℕ → Bool) → ((b : ℕ) → is b ≡ true → b < 128) → (bytes : List ℕ) → begins_with is bytes ≡ true → get_or bytes 0 0 < 128
first_low is low [] begins = cc
first_low is low (b ∷ bytes) begins = low b begins

quote_low : (b : ℕ) → (b == greater_than_sign) ≡ true → b < 128
quote_low b is = grind (arith, nat_tests)

colon_low : (b : ℕ) → (b == colon) ≡ true → b < 128
colon_low b is = grind (arith, nat_tests)

module _ (line : List ℕ) where
  -- after fewer than four columns of space no column is pending
  pub near : (s : LineState) → (space_within 4 s == 4) ≡ false → (after_space 4 s).pending ≡ 0
  near s other = all_taken 4 s (grind (arith, nat_tests))

  quote_reached : (s : LineState) → Reached line s → s.pending ≡ 0 → begins_with (λ b. b == greater_than_sign) (unscanned s) ≡ true
      → Reached line (after_space 1 (bytes_further 1 s))
  quote_reached s r none begins =
      let some : 1 ≤ length (unscanned s) = some_byte (λ b. b == greater_than_sign) (unscanned s) begins in
      (after_some line (bytes_further 1 s) (after_bytes line s r 1 none some (omega arith)
      (first_low (λ b. b == greater_than_sign) quote_low (unscanned s) begins)) 1)

  item_reached : (indent : ℕ) (s t : LineState) (c : Container) (o : Option Marker) → list_marker (unscanned s) ≡ o → Reached line s → s.pending ≡ 0
      → item_of (item_outcome_by indent s o) ≡ Some (c, t) → Reached line t
  item_reached indent s t c None none r spent is = none_some (c, t) is
  item_reached indent s t c (Some m) some r spent is =
      let low = marker_low (unscanned s) m some in
      let marked = after_bytes line s r m.width spent (marker_width (unscanned s) m some) low.0 low.1 in
      let one = after_some line (bytes_further m.width s) marked 1 in
      let all = after_some line (after_space 1 (bytes_further m.width s)) one (further_spaces (after_space 1 (bytes_further m.width s))) in
      bool_cases (space_or_end_follows (bytes_further m.width s))
      (λ follows. subst (Reached line) (ap (state_in s) (rw follows at is)) all)
      (λ bare. none_some (c, t) (rw bare at is))

  footnote_reached : (s t : LineState) (c : Container) (label : Option (List ℕ)) → footnote_label (unscanned s) ≡ label → Reached line s
      → s.pending ≡ 0 → footnote_by s label ≡ Some (c, t) → Reached line t
  footnote_reached s t c None none r spent is = none_some (c, t) is
  footnote_reached s t c (Some label) some r spent is =
      let after = bytes_further (length label + 4) s in
      let marked = after_bytes line s r (length label + 4) spent (label_width (unscanned s) label some) (omega arith)
      (label_low (unscanned s) label some) in
      subst (Reached line) (ap (state_in s) is) (after_some line after marked (leading_spaces (rest_of after)))

  definition_reached : (indent : ℕ) (s t : LineState) (c : Container) → Reached line s → s.pending ≡ 0
      → term_definition_by (definition_outcome indent s) ≡ Some (c, t) → Reached line t
  definition_reached indent s t c r spent is =
      let marked = definition_marked indent s (c, t) is in
      let after = bytes_further 1 s in
      let columns = definition_spaces (leading_spaces (rest_of after)) in
      subst (Reached line) (ap (state_in s) (rw marked at is))
      (after_some line after (after_bytes line s r 1 spent (some_byte (λ b. b == colon) (unscanned s) marked) (omega arith)
      (first_low (λ b. b == colon) colon_low (unscanned s) marked)) columns)

  extension_reached : (indent : ℕ) (s t : LineState) (c : Container) (footnote : Option (Container × LineState)) → footnote_of all_containers s ≡ footnote
      → Reached line s → s.pending ≡ 0 → either_begun footnote (term_definition_of all_containers indent s) ≡ Some (c, t) → Reached line t
  extension_reached indent s t c (Some (d, u)) footnote r spent is =
      subst (Reached line) (ap (state_in s) is) (footnote_reached s u d (footnote_label (unscanned s)) refl r spent footnote)
  extension_reached indent s t c None footnote r spent is = definition_reached indent s t c r spent is

  marker_reached : (indent : ℕ) (s t : LineState) (c : Container) (item : Option (Container × LineState)) → item_of (item_outcome indent s) ≡ item
      → Reached line s → s.pending ≡ 0 → either_begun item (extension_of all_containers indent s) ≡ Some (c, t) → Reached line t
  marker_reached indent s t c (Some (d, u)) item r spent is =
      subst (Reached line) (ap (state_in s) is) (item_reached indent s u d (list_marker (unscanned s)) refl r spent item)
  marker_reached indent s t c None item r spent is = extension_reached indent s t c (footnote_of all_containers s) refl r spent is

  pub begun_reached : (s t : LineState) (c : Container) → Reached line s → begun_at all_containers s ≡ Some (c, t) → Reached line t
  begun_reached s t c r is =
      let after = after_some line s r 4 in
      bool_cases (space_within 4 s == 4)
      (λ far. none_some (c, t) (rw far at is))
      (λ few. bool_cases (begins_with (λ b. b == greater_than_sign) (unscanned (after_space 4 s)))
      (λ quote.
      let found : Some (Quote, after_space 1 (bytes_further 1 (after_space 4 s))) ≡ Some (c, t) = rw (few, quote) at is in
      subst (Reached line) (ap (state_in s) found) (quote_reached (after_space 4 s) after (near s few) quote))
      (λ other. marker_reached (space_within 4 s) (after_space 4 s) t c (item_of (item_outcome (space_within 4 s) (after_space 4 s))) refl after
      (near s few) (rw (few, other) at is)))

  width_reached : (begun : Bool) (width : ℕ) (blank more : Bool) (s t : LineState) → Reached line s → within_width begun width blank s ≡ Some (more, t)
      → Reached line t
  width_reached true width true more s t r is = none_some (more, t) is
  width_reached false width true more s t r is = subst (Reached line) (ap (state_in s) is) r
  width_reached begun width false more s t r is =
      bool_cases (space_within width s == width)
      (λ all. subst (Reached line) (ap (state_in s) (rw all at is)) (after_some line s r width))
      (λ few. none_some (more, t) (rw few at is))

  within_reached : (c : Container) (blank more : Bool) (s t : LineState) → Reached line s → within c blank s ≡ Some (more, t) → Reached line t
  within_reached Quote blank more s t r is =
      let after = after_some line s r 4 in
      bool_cases (space_within 4 s == 4)
      (λ far. none_some (more, t) (rw far at is))
      (λ few. bool_cases (begins_with (λ b. b == greater_than_sign) (unscanned (after_space 4 s)))
      (λ quote.
      let q = after_space 1 (bytes_further 1 (after_space 4 s)) in
      let found : Some (is_blank (unscanned q), q) ≡ Some (more, t) = rw (few, quote) at is in
      subst (Reached line) (ap (state_in s) found) (quote_reached (after_space 4 s) after (near s few) quote))
      (λ other. none_some (more, t) (rw (few, other) at is)))
  within_reached Footnote blank more s t r is = width_reached false 4 blank more s t r is
  within_reached (Item item) blank more s t r is = width_reached item.starts_blank item.width blank more s t r is
  within_reached (TermDefinition definition) blank more s t r is = width_reached definition.starts_blank definition.width blank more s t r is

  indent_left : (width : ℕ) (blank : Bool) (s : LineState) → Reached line s → Reached line (after_width width blank s)
  indent_left width false s r = r
  indent_left width true s r = after_some line s r width

  indent_reached : (c : Container) (blank : Bool) (s : LineState) → Reached line s → Reached line (after_indent c blank s)
  indent_reached Quote blank s r = r
  indent_reached Footnote blank s r = indent_left 4 blank s r
  indent_reached (Item item) blank s r = indent_left item.width blank s r
  indent_reached (TermDefinition definition) blank s r = indent_left definition.width blank s r

  go : Bool → List Container → LineState → Option (Bool × LineState) → LineState
  go blank inner s found = elim found [ Some r ↦ (go_on r.0 inner r.1).state | None ↦ s ]

  one_more : (blank : Bool) (c : Container) (inner : List Container) (s : LineState) (found : Option (Bool × LineState)) → within c blank s ≡ found
      → Reached line s → ((more : Bool) (t : LineState) → Reached line t → Reached line (go_on more inner t).state)
      → Reached line (go_on blank (c ∷ inner) s).state
  one_more blank c inner s None is r later = rw (is, go_on) r
  one_more blank c inner s (Some (more, t)) is r later = rw (is, go_on) (later more t (within_reached c blank more s t r is))

  on_reached : (blank : Bool) (outer : List Container) (s : LineState) → Reached line s → Reached line (go_on blank outer s).state
  on_reached blank [] s r = r
  on_reached blank (c ∷ inner) s r = one_more blank c inner s (within c blank s) refl r (λ more t there. on_reached more inner t there)

  pub after_reached : (outer : List Container) → Reached line (match_line outer line).state
  after_reached outer = on_reached (is_blank line) outer (start_of line) (at_start line)

  one_inside : (blank : Bool) (c : Container) (inner : List Container) (s : LineState) (found : Option (Bool × LineState)) → within c blank s ≡ found
      → Reached line s → ((more : Bool) (t : LineState) → Reached line t → Reached line (after_containers more inner t))
      → Reached line (after_containers blank (c ∷ inner) s)
  one_inside blank c inner s None is r later = subst (Reached line) (sym (stays-none blank c inner s is)) r
  one_inside blank c inner s (Some (more, t)) is r later =
      subst (Reached line) (sym (goes-some blank more c inner s t is)) (later more (after_indent c blank t)
      (indent_reached c blank t (within_reached c blank more s t r is)))

  inside_reached : (blank : Bool) (outer : List Container) (s : LineState) → Reached line s → Reached line (after_containers blank outer s)
  inside_reached blank [] s r = r
  inside_reached blank (c ∷ inner) s r = one_inside blank c inner s (within c blank s) refl r (λ more t there. inside_reached more inner t there)

  one_marker : (n : ℕ) (s : LineState) (found : Option (Container × LineState)) → begun_at all_containers s ≡ found → Reached line s
      → ((t : LineState) → Reached line t → Reached line (after_markers n t)) → Reached line (after_markers (suc n) s)
  one_marker n s None is r later = subst (Reached line) (sym (marks-none n s is)) r
  one_marker n s (Some (c, t)) is r later = subst (Reached line) (sym (marks-some n s t c is)) (later t (begun_reached s t c r is))

  markers_reached : (n : ℕ) (s : LineState) → Reached line s → Reached line (after_markers n s)
  markers_reached zero s r = r
  markers_reached (suc n) s r = one_marker n s (begun_at all_containers s) refl r (λ t there. markers_reached n t there)

  pub first_reached : (kept : ℕ) (outer : List Container) → Reached line (first_offset kept outer line)
  first_reached kept outer = markers_reached (length outer - kept) (match_line (take kept outer) line).state (after_reached (take kept outer))

  pub later_reached : (kind : BlockKind) (outer : List Container) → Reached line (later_offset kind outer line)
  later_reached Indented outer = inside_reached (is_blank line) outer (start_of line) (at_start line)
  later_reached (Fenced count byte) outer = inside_reached (is_blank line) outer (start_of line) (at_start line)
  later_reached (Html kind) outer = inside_reached (is_blank line) outer (start_of line) (at_start line)
  later_reached Blank outer = after_reached outer
  later_reached Break outer = after_reached outer
  later_reached (Heading level) outer = after_reached outer
  later_reached (Setext level) outer = after_reached outer
  later_reached (Table columns) outer = after_reached outer
  later_reached Definition outer = after_reached outer
  later_reached Paragraph outer = after_reached outer

  words_reached : (s : LineState) → Reached line s → Reached line (after_all_space (after_space 4 s))
  words_reached s r = after_all line (after_space 4 s) (after_some line s r 4)

  pub text_reached : (kind : BlockKind) (indent : ℕ) (s : LineState) → Reached line s → Reached line (text_offset kind indent s)
  text_reached Indented indent s r = after_some line s r 4
  text_reached (Fenced count byte) indent s r = after_some line s r indent
  text_reached (Html kind) indent s r = r
  text_reached Blank indent s r = words_reached s r
  text_reached Break indent s r = words_reached s r
  text_reached (Heading level) indent s r = words_reached s r
  text_reached (Setext level) indent s r = words_reached s r
  text_reached (Table columns) indent s r = words_reached s r
  text_reached Definition indent s r = words_reached s r
  text_reached Paragraph indent s r = words_reached s r
