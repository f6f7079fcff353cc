-- Where the two calls that look for a list item agree.
use Rattle.std.specs.Prelude.{ℕ, not, is_some, Bool, true, false, ◌≡◌, ◌↔◌, refl, ◌==◌, ◌||◌, ◌&&◌, nat_le, List, [], ◌∷◌, ◌++◌, ◌+◌, ◌%◌, ◌≤◌}
use Rattle.std.specs.Prelude.{count_by, length, take, drop, Option, Some, None}
use Rattle.std.proofs.Common.{cond, subst, sym, ◌∙◌, ap, arith, append_assoc, length-append, zero-add}
use Rattle.std.specs.List.{list_all, prefix_len}
use Rattle.std.specs.Option.{option_map}
use Rattle.std.specs.Str.Parse.{digits_value}
use Rattle.std.proofs.lemmas.Bool.{leb-true}
use Rattle.std.proofs.lemmas.Bool.Decides.{nat_tests}
use Rattle.std.proofs.lemmas.List.{take-append-drop}
use Rattle.std.proofs.lemmas.List.Folds.{length-prefix_len}
use Rattle.std.proofs.lemmas.List.Sums.{sum_by-cons}
use Rattle.std.proofs.Math.Seq.{take-append_seam, drop-append_seam}
use Rattle.markdown_scanners_tree.specs.SomeExactly.{SomeExactly}
use Rattle.markdown_scanners_tree.specs.Bytes.{begins_with, is_between, is_blank, is_digit, is_line_ending, is_space_or_tab, is_white_space_in_line, line_head}
use Rattle.markdown_scanners_tree.specs.line.ItemRules.{start_of, item_at_start, HasItem, HasMarker, AgreeOnItems, is_blank_from_vertical}
use Rattle.markdown_scanners_tree.specs.line.ItemRules.{is_before_vertical, is_break_like_item, is_item_alone}
use Rattle.markdown_scanners_tree.specs.line.Outcome.{Outcome, further_spaces, item_outcome, item_outcome_by, item_outcome_after, not_found, space_or_end_follows}
use Rattle.markdown_scanners_tree.specs.line.State.{LineState, bytes_further, after_space}
use Rattle.markdown_scanners_tree.specs.scanners.Breaks.{is_break_marker, is_break_byte, is_break_head, is_thematic_break}
use Rattle.markdown_scanners_tree.specs.scanners.list_items.ListItem.{IsListMarker, bullet, ordered, IsListItem}
use Rattle.markdown_scanners_tree.specs.scanners.list_items.ListMarker.{Marker, is_bullet, is_delimiter, bullet_marker, ordered_marker, ordered_marker_of, list_marker}
use Rattle.markdown_scanners_tree.proofs.PrefixLemmas.{both_true, list_all-prefix, prefix_len-parts}
use Rattle.markdown_scanners_tree.proofs.line.ColumnLemmas.{bool_cases}
use Rattle.markdown_scanners_tree.proofs.line.ItemLemmas.{marker-is, item-found}
use Rattle.markdown_scanners_tree.proofs.line.ItemSpaces.{is_item_rest, is_marker_rest, item_space-found, item_space-only, marker_rest-written}
use Rattle.markdown_scanners_tree.proofs.line.ItemSpaces.{marker_rest-item, item_rest-marker, vertical_no_marker, or_true}
use Rattle.markdown_scanners_tree.proofs.line.WrittenLemmas.{head-cons, marker_of, pick}
use Rattle.markdown_scanners_tree.proofs.scanners.breaks.BreakLemmas.{join_three, split_three}

-- what a marker that was found is

same_marker : (made m : Marker) → Some made ≡ Some m → made ≡ m
same_marker made m e = cc

bullet-only : (line : List ℕ) (m : Marker) → bullet_marker line ≡ Some m
    → IsListMarker (take m.width line) m.delimiter m.start
bullet-only [] m found = cc
bullet-only (b ∷ bs) m found =
    let made : Marker = record { width = 1; delimiter = b; start = 0 } in
    bool_cases (is_bullet b && not (is_thematic_break (b ∷ bs)))
    (λ yes.
    let is = (both_true (is_bullet b) (not (is_thematic_break (b ∷ bs))) yes).0 in
    subst (λ (x : Marker). IsListMarker (take x.width (b ∷ bs)) x.delimiter x.start)
    (same_marker made m (rw yes at found)) (bullet b is))
    (λ no. let none = rw no at found in cc)

digits-front : (digits back : List ℕ) (d : ℕ) → take (length digits + 1) (digits ++ d ∷ back) ≡ digits ++ d ∷ []
digits-front digits back d =
    let marker = digits ++ d ∷ [] in
    ap (λ n. take n (digits ++ d ∷ back)) (sym (length-append digits (d ∷ [])))
    ∙ ap (take (length marker)) (sym (append_assoc digits (d ∷ []) back)) ∙ take-append_seam marker back

ordered-by : (digits back : List ℕ) (m : Marker) → list_all is_digit digits ≡ true
    → ordered_marker_of digits back ≡ Some m → IsListMarker (take m.width (digits ++ back)) m.delimiter m.start
ordered-by digits [] m all found = cc
ordered-by digits (d ∷ back) m all found =
    let made : Marker = record { width = length digits + 1; delimiter = d; start = digits_value 10 digits } in
    bool_cases (nat_le 1 (length digits) && nat_le (length digits) 9 && is_delimiter d)
    (λ yes.
    let three = split_three (nat_le 1 (length digits)) (nat_le (length digits) 9) (is_delimiter d) yes in
    let is : IsListMarker (digits ++ d ∷ []) d (digits_value 10 digits) =
    ordered digits d (leb-true 1 (length digits) three.0) (leb-true (length digits) 9 three.1) all three.2 in
    subst (λ (x : Marker). IsListMarker (take x.width (digits ++ d ∷ back)) x.delimiter x.start)
    (same_marker made m (rw yes at found))
    (subst (λ (marker : List ℕ). IsListMarker marker d (digits_value 10 digits)) (sym (digits-front digits back d)) is))
    (λ no. let none = rw no at found in cc)

ordered-only : (line : List ℕ) (m : Marker) → ordered_marker line ≡ Some m
    → IsListMarker (take m.width line) m.delimiter m.start
ordered-only line m found =
    let n = prefix_len is_digit line in
    let count : length (take n line) ≡ n = length-prefix_len is_digit line in
    let here : ordered_marker_of (take n line) (drop n line) ≡ Some m =
    ap (λ k. ordered_marker_of (take n line) (drop k line)) (sym count) ∙ found in
    subst (λ (bytes : List ℕ). IsListMarker (take m.width bytes) m.delimiter m.start) (take-append-drop n line)
    (ordered-by (take n line) (drop n line) m (list_all-prefix is_digit line) here)

marker-by : (line : List ℕ) (m : Marker) (first : Option Marker) → bullet_marker line ≡ first
    → pick first (ordered_marker line) ≡ Some m → IsListMarker (take m.width line) m.delimiter m.start
marker-by line m (Some x) is found = bullet-only line m (is ∙ found)
marker-by line m None is found = ordered-only line m found

marker-only : (line : List ℕ) (m : Marker) → list_marker line ≡ Some m
    → IsListMarker (take m.width line) m.delimiter m.start
marker-only line m found = marker-by line m (bullet_marker line) refl found

-- an item after a marker that was found
item_after : (line : List ℕ) (m : Marker) → list_marker line ≡ Some m → is_item_rest (drop m.width line) ≡ true
    → HasItem line m.delimiter m.start
item_after line m found is =
    let (offset, space, is_space) = item_space-found (drop m.width line) is in (
      length (take m.width line) + offset,
      length (take m.width line) + space,
      record {
        marker = take m.width line;
        rest = drop m.width line;
        offset = offset;
        space = space;
        parts = sym (take-append-drop m.width line);
        is_marker = marker-only line m found;
        is_space = is_space;
        counted = refl;
        columns_are = refl;
      },
    )

-- a line start finds a marker where space or the line's end follows it
follows : (line : List ℕ) (m : Marker)
    → space_or_end_follows (bytes_further m.width (start_of line)) ≡ is_marker_rest (drop m.width line)
follows line m = marker_rest-written ((0 + m.width) % 4) (drop (0 + m.width) line)
    ∙ ap (λ k. is_marker_rest (drop k line)) (zero-add m.width)

-- the state after the marker and its one column of space
abbrev pub after_marker : List ℕ → ℕ → LineState
after_marker line width = after_space 1 (bytes_further width (start_of line))

at_start : (line : List ℕ) → item_at_start line ≡ (item_outcome 0 (start_of line)).answer
unfolding item_at_start
at_start line = refl

pub answer-is : (line : List ℕ) (m : Marker) → list_marker line ≡ Some m → is_marker_rest (drop m.width line) ≡ true
    → item_at_start line
    ≡ Some (m.delimiter, m.start, 0 + m.width + 1 + further_spaces (after_marker line m.width))
answer-is line m found is =
    at_start line
    ∙ ap (λ (o : Outcome (ℕ × ℕ × ℕ)). o.answer)
    (item-found 0 (further_spaces (after_marker line m.width)) (start_of line) m found (follows line m ∙ is) refl)

pub answer-bare : (line : List ℕ) (m : Marker) → list_marker line ≡ Some m → is_marker_rest (drop m.width line) ≡ false
    → item_at_start line ≡ None
answer-bare line m found other =
    let s = start_of line in
    let marked = bytes_further m.width s in
    at_start line ∙ ap (λ o. (item_outcome_by 0 s o).answer) found
    ∙ ap (λ t. (cond t (item_outcome_after 0 m (after_space 1 marked)) (not_found s)).answer)
    (follows line m ∙ other)

pub answer-none : (line : List ℕ) → list_marker line ≡ None → item_at_start line ≡ None
answer-none line none = at_start line ∙ ap (λ o. (item_outcome_by 0 (start_of line) o).answer) none

-- each marker of a line start is an item
abbrev delimiter_of : Option (ℕ × ℕ × ℕ) → ℕ
delimiter_of None = 0
delimiter_of (Some r) = r.0

abbrev start_number_of : Option (ℕ × ℕ × ℕ) → ℕ
start_number_of None = 0
start_number_of (Some r) = r.1

marker_is_item-by : (line : List ℕ) (delimiter start content : ℕ) (o : Option Marker) → list_marker line ≡ o
    → item_at_start line ≡ Some (delimiter, start, content) → HasItem line delimiter start
marker_is_item-by line delimiter start content None found answer =
    absurd (let none = answer-none line found in cc)
marker_is_item-by line delimiter start content (Some m) found answer =
    bool_cases (is_marker_rest (drop m.width line))
    (λ yes.
    let same = sym (answer-is line m found yes) ∙ answer in
    let item = item_after line m found (marker_rest-item (drop m.width line) yes) in
    subst (λ d. HasItem line d start) (ap delimiter_of same)
    (subst (λ n. HasItem line m.delimiter n) (ap start_number_of same) item))
    (λ no. absurd (let none = answer-bare line m found no in cc))

pub marker_is_item : (line : List ℕ) (delimiter start : ℕ) → HasMarker line delimiter start
    → HasItem line delimiter start
marker_is_item line delimiter start (content, answer) =
    marker_is_item-by line delimiter start content (list_marker line) refl answer

-- thematic breaks: no marker begins one, and an item does where space follows its first bullet

none-counted : (marker : ℕ) (bytes : List ℕ) → is_break_marker marker ≡ true
    → list_all is_white_space_in_line bytes ≡ true → count_by (λ b. b == marker) bytes ≡ 0
none-counted marker [] marks all = refl
none-counted marker (b ∷ bytes) marks all =
    let both = both_true (is_white_space_in_line b) (list_all is_white_space_in_line bytes) all in
    let white : is_white_space_in_line b ≡ true = both.0 in
    let other : (b == marker) ≡ false = grind (arith, nat_tests) in
    let rest : count_by (λ c. c == marker) bytes ≡ 0 = none-counted marker bytes marks both.1 in
    sum_by-cons (λ c. cond (c == marker) 1 0) b bytes ∙ rw (other, rest) refl

break-head : (b : ℕ) (bs : List ℕ) → is_thematic_break (b ∷ bs) ≡ true → is_break_head (b ∷ line_head bs) ≡ true
break-head b bs break =
    bool_cases (is_line_ending b)
    (λ ends. absurd (let none : is_thematic_break (b ∷ bs) ≡ false = rw ends refl in cc))
    (λ goes. ap is_break_head (sym (head-cons b bs goes)) ∙ break)

-- a thematic break begins with its marker, and more than white space follows
break-parts : (b : ℕ) (bs : List ℕ) → is_thematic_break (b ∷ bs) ≡ true
    → (is_break_marker b ≡ true) × (is_blank bs ≡ false)
break-parts b bs break =
    let three = split_three (is_break_marker b) (list_all (is_break_byte b) (b ∷ line_head bs))
    (nat_le 3 (count_by (λ c. c == b) (b ∷ line_head bs))) (break-head b bs break) in
    let count : 3 ≤ count_by (λ c. c == b) (b ∷ line_head bs) = leb-true 3 _ three.2 in
    let first = sum_by-cons (λ c. cond (c == b) 1 0) b (line_head bs) in (
      three.0,
      bool_cases (is_blank bs)
          (λ white.
          let none = none-counted b (line_head bs) three.0 white in
          bool_cases (b == b) (λ y. absurd (let one = rw y at first in omega (arith, one, none, count)))
          (λ n. absurd (let less = rw n at first in omega (arith, less, none, count))))
          (λ full. full),
    )

and_false : (b : Bool) → (b && false) ≡ false
and_false true = refl
and_false false = refl

pub break-no_marker : (line : List ℕ) → is_thematic_break line ≡ true → list_marker line ≡ None
break-no_marker [] break = absurd (let none : false ≡ true = break in cc)
break-no_marker (b ∷ bs) break =
    let marks = (break-parts b bs break).0 in
    let made : Marker = record { width = 1; delimiter = b; start = 0 } in
    let test : (is_bullet b && not (is_thematic_break (b ∷ bs))) ≡ false =
    ap (λ t. is_bullet b && not t) break ∙ and_false (is_bullet b) in
    let no_bullet : bullet_marker (b ∷ bs) ≡ None = ap (λ t. cond t (Some made) None) test in
    let no_digit : is_digit b ≡ false = grind (arith, nat_tests) in
    let digits : prefix_len is_digit (b ∷ bs) ≡ 0 = prefix_len-parts is_digit [] (b ∷ bs) refl no_digit in
    let no_number : ordered_marker (b ∷ bs) ≡ None = ap (λ n. marker_of n (b ∷ bs)) digits in
    ap (λ o. pick o (ordered_marker (b ∷ bs))) no_bullet ∙ no_number

break-item : (line marker rest : List ℕ) (delimiter start : ℕ) → line ≡ marker ++ rest
    → is_thematic_break line ≡ true → IsListMarker marker delimiter start → is_item_rest rest ≡ true
    → is_break_like_item line ≡ true
break-item line marker rest delimiter start parts break (bullet b is) follows =
    let begins : is_thematic_break (b ∷ rest) ≡ true = ap is_thematic_break (sym parts) ∙ break in
    let full = (break-parts b rest begins).1 in
    let spaced : begins_with is_space_or_tab rest ≡ true = rw full at follows in
    ap is_break_like_item parts
    ∙ join_three (is_thematic_break (b ∷ rest)) (is_bullet b) (begins_with is_space_or_tab rest) begins is spaced
break-item line marker rest delimiter start parts break (ordered [] d one few all is) follows =
    absurd (omega (arith, one))
break-item line marker rest delimiter start parts break (ordered (b ∷ digits) d one few all is) follows =
    let begins : is_thematic_break (b ∷ ((digits ++ d ∷ []) ++ rest)) ≡ true =
    ap is_thematic_break (sym parts) ∙ break in
    let marks : is_break_marker b ≡ true = (break-parts b ((digits ++ d ∷ []) ++ rest) begins).0 in
    let digit : is_digit b ≡ true = (both_true (is_digit b) (list_all is_digit digits) all).0 in
    absurd (grind (arith, nat_tests))

-- an item is one to both where none of this is so

or_false : (a b : Bool) → (a || b) ≡ false → (a ≡ false) × (b ≡ false)
or_false true b h = cc
or_false false b h = (refl, h)

item-follows : (line : List ℕ) (n delimiter start indent : ℕ) → is_item_alone line ≡ false
    → IsListItem line n delimiter start indent → HasMarker line delimiter start
unfolding is_item_alone
item-follows line n delimiter start indent alone item =
    let both = or_false (is_break_like_item line) (is_before_vertical line (list_marker line)) alone in
    let spaced = item_space-only item.rest item.offset item.space item.is_space in
    let no_break : is_thematic_break line ≡ false =
    bool_cases (is_thematic_break line)
    (λ yes.
    let like = break-item line item.marker item.rest delimiter start item.parts yes item.is_marker spaced in
    absurd (let none = both.0 in cc))
    (λ no. no) in
    let m : Marker = record { width = length item.marker; delimiter = delimiter; start = start } in
    let found : list_marker line ≡ Some m = ap list_marker item.parts
    ∙ marker-is item.marker item.rest delimiter start item.is_marker
    (λ one. ap is_thematic_break (sym item.parts) ∙ no_break) in
    let rest : drop (length item.marker) line ≡ item.rest =
    ap (drop (length item.marker)) item.parts ∙ drop-append_seam item.marker item.rest in
    let fine : is_blank_from_vertical item.rest ≡ false =
    ap is_blank_from_vertical (sym rest) ∙ ap (is_before_vertical line) (sym found) ∙ both.1 in
    let follows_it = ap is_marker_rest rest ∙ item_rest-marker item.rest spaced fine in
    (0 + m.width + 1 + further_spaces (after_marker line m.width), answer-is line m found follows_it)

pub item_is_marker : (line : List ℕ) (delimiter start : ℕ) → is_item_alone line ≡ false → HasItem line delimiter start
    → HasMarker line delimiter start
item_is_marker line delimiter start alone (n, indent, item) = item-follows line n delimiter start indent alone item

-- the first call alone finds an item
abbrev IsAlone : List ℕ → Type 0
IsAlone line = ((delimiter : ℕ) × (start : ℕ) × HasItem line delimiter start)
    × (item_at_start line ≡ None)

alone-vertical : (line : List ℕ) (o : Option Marker) → list_marker line ≡ o → is_before_vertical line o ≡ true
    → IsAlone line
alone-vertical line None found vertical = cc
alone-vertical line (Some m) found vertical =
    let rest = drop m.width line in
    let both = both_true (begins_with (is_between 11 12) rest) (is_blank rest) vertical in
    let white : is_item_rest rest ≡ true = (let is = both.1 in rw is refl) in (
      (m.delimiter, m.start, item_after line m found white),
      answer-bare line m found (vertical_no_marker rest both.0),
    )

alone-break : (line : List ℕ) → is_break_like_item line ≡ true → IsAlone line
alone-break [] like = cc
alone-break (b ∷ bs) like =
    let three = split_three (is_thematic_break (b ∷ bs)) (is_bullet b) (begins_with is_space_or_tab bs) like in
    let follows : is_item_rest bs ≡ true = (let spaced = three.2 in rw spaced (or_true (is_blank bs))) in
    let (offset, space, is_space) = item_space-found bs follows in
    let item : IsListItem (b ∷ bs) (1 + offset) b 0 (1 + space) = record {
      marker = b ∷ [];
      rest = bs;
      offset = offset;
      space = space;
      parts = refl;
      is_marker = bullet b three.1;
      is_space = is_space;
      counted = refl;
      columns_are = refl;
    } in
    ((b, 0, (1 + offset, 1 + space, item)), answer-none (b ∷ bs) (break-no_marker (b ∷ bs) three.0))

second_true : (a b : Bool) → a ≡ false → (a || b) ≡ true → b ≡ true
second_true true b h k = cc
second_true false b h k = k

pub item_alone : (line : List ℕ) → is_item_alone line ≡ true
    → ((delimiter : ℕ) × (start : ℕ) × HasItem line delimiter start)
    × (item_at_start line ≡ None)
unfolding is_item_alone
item_alone line alone =
    bool_cases (is_break_like_item line)
    (λ like. alone-break line like)
    (λ other. alone-vertical line (list_marker line) refl
    (second_true (is_break_like_item line) (is_before_vertical line (list_marker line)) other alone))

-- the two calls agree on a line exactly where it begins with no item to the first call alone
pub items_agree : (line : List ℕ) → AgreeOnItems line ↔ (is_item_alone line ≡ false)
items_agree line = (
  (λ agree.
      bool_cases (is_item_alone line)
      (λ alone.
      let (item, none) = item_alone line alone in
      let marker = (agree item.0 item.1).0 item.2 in
      absurd (let some = marker.1 in cc))
      (λ other. other)),
  (λ alone delimiter start. (item_is_marker line delimiter start alone, marker_is_item line delimiter start)),
)

or_none : (a b : Bool) → a ≡ false → b ≡ false → (a || b) ≡ false
or_none true b h k = cc
or_none false b h k = k

first_false : (a b c : Bool) → a ≡ false → (a && b && c) ≡ false
first_false true b c h = cc
first_false false b c h = refl

-- where there is no thematic break, and no vertical white space after a marker, there is no such item
pub no_item_alone : (line : List ℕ) → is_thematic_break line ≡ false
    → is_before_vertical line (list_marker line) ≡ false → is_item_alone line ≡ false
unfolding is_item_alone
no_item_alone line no_break fine =
    or_none (is_break_like_item line) (is_before_vertical line (list_marker line))
    (first_false (is_thematic_break line) (begins_with is_bullet line) (begins_with is_space_or_tab (drop 1 line)) no_break)
    fine

-- there both answer the same bullet or delimiter and the same start number, or nothing
pub same_answers : (line : List ℕ) (item : Option (ℕ × ℕ × ℕ × ℕ)) (marker : Option (ℕ × ℕ × ℕ))
    → SomeExactly (λ r. IsListItem line r.0 r.1 r.2 r.3) item → marker ≡ item_at_start line
    → is_item_alone line ≡ false
    → option_map {U = ℕ × ℕ} (λ r. (r.1, r.2)) item ≡ option_map {U = ℕ × ℕ} (λ r. (r.0, r.1)) marker
same_answers line (Some r) marker is answer alone =
    let has = item_is_marker line r.1 r.2 alone (r.0, r.3, is) in
    sym (ap (option_map {U = ℕ × ℕ} (λ p. (p.0, p.1))) (answer ∙ has.1))
same_answers line None None is answer alone = refl
same_answers line None (Some p) is answer alone =
    let item = marker_is_item line p.0 p.1 (p.2, sym answer) in
    absurd (is (item.0, p.0, p.1, item.1) item.2)

-- the second call finds a marker where the first finds an item, unless it is one to the first alone, and none elsewhere
pub item_begun : (line : List ℕ) (n delimiter start indent : ℕ) → IsListItem line n delimiter start indent
    → is_item_alone line ≡ false → is_some (item_at_start line) ≡ true
item_begun line n delimiter start indent item alone =
    let has = item_is_marker line delimiter start alone (n, indent, item) in rw has.1 refl

pub no_item_begun : (line : List ℕ) → ((r : ℕ × ℕ × ℕ × ℕ) → ¬ IsListItem line r.0 r.1 r.2 r.3)
    → is_some (item_at_start line) ≡ false
no_item_begun line none = by (item_at_start line) refl
  where
    by : (marker : Option (ℕ × ℕ × ℕ)) → item_at_start line ≡ marker → is_some marker ≡ false
    by None is = refl
    by (Some p) is =
        let item = marker_is_item line p.0 p.1 (p.2, is) in absurd (none (item.0, p.0, p.1, item.1) item.2)

pub ruleset items_begun = (item_begun, no_item_begun)
