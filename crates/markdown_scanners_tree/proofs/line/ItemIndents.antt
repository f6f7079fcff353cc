-- The indent of a list item, to the two calls that look for one.
use Rattle.std.specs.Prelude.{ℕ, not, if◌then◌else◌, Bool, true, false, ◌≡◌, refl, ◌==◌, nat_lt, List, [], ◌∷◌, ◌++◌, ◌+◌, ◌-◌, ◌%◌, ◌≤◌, min, length, take, drop, Option, Some, None}
use Rattle.std.proofs.Common.{cond, sym, ◌∙◌, ap, arith, one-add, zero-add}
use Rattle.std.specs.Option.{option_map}
use Rattle.std.specs.List.{list_all}
use Rattle.std.proofs.lemmas.Bool.{eqb-true, lt-ltb, le-ltb}
use Rattle.std.proofs.lemmas.Bool.Decides.{nat_tests}
use Rattle.std.proofs.lemmas.List.{drop-drop}
use Rattle.std.proofs.Math.Seq.{drop-append_seam}
use Rattle.markdown_scanners_tree.specs.SomeExactly.{SomeExactly}
use Rattle.markdown_scanners_tree.specs.Bytes.{begins_with, ends_or_begins_with, is_blank, is_white_space_in_line, IsBlankLine}
use Rattle.markdown_scanners_tree.specs.Columns.{column_after, column_past, bytes_below, written_out}
use Rattle.markdown_scanners_tree.specs.line.ItemRules.{item_at_start, is_item_alone, is_tab_after_spaces, is_before_tab}
use Rattle.markdown_scanners_tree.specs.line.Outcome.{further_spaces}
use Rattle.markdown_scanners_tree.specs.line.PlainStep.{marker_spaces}
use Rattle.markdown_scanners_tree.specs.line.State.{unscanned, rest_of, leading_spaces, space_within, columns_further, after_space}
use Rattle.markdown_scanners_tree.specs.scanners.Breaks.{is_thematic_break}
use Rattle.markdown_scanners_tree.specs.scanners.Indent.{goes_on, all_go_on, IsIndent}
use Rattle.markdown_scanners_tree.specs.scanners.list_items.ListItem.{IsItemSpace, blank, indented_code, text, IsListItem}
use Rattle.markdown_scanners_tree.specs.scanners.list_items.ListMarker.{Marker, list_marker}
use Rattle.markdown_scanners_tree.proofs.PrefixLemmas.{both_true}
use Rattle.markdown_scanners_tree.proofs.RunLemmas.{not_true}
use Rattle.markdown_scanners_tree.proofs.line.ColumnLemmas.{bool_cases, below-cons, none_below}
use Rattle.markdown_scanners_tree.proofs.line.ItemLemmas.{marker-is, none_after}
use Rattle.markdown_scanners_tree.proofs.line.ItemRules.{answer-is, answer-bare, answer-none, break-no_marker, item_is_marker, marker_is_item}
use Rattle.markdown_scanners_tree.proofs.line.ItemSpaces.{is_marker_rest, end-blank}
use Rattle.markdown_scanners_tree.proofs.line.SpaceLemmas.{state_of, further-column}
use Rattle.markdown_scanners_tree.proofs.line.WrittenLemmas.{written-first, head-cons}
use Rattle.markdown_scanners_tree.proofs.scanners.lines.BlankLemmas.{is_blank-found, is_blank-only}

-- the columns after a marker that belong to it, where no tab stands among the spaces
abbrev marker_columns : List ℕ → ℕ
marker_columns rest = 1 + (if is_blank rest then 0 else marker_spaces (leading_spaces rest - 1))

-- the bytes after a space
tab-later : (b : ℕ) (bs : List ℕ) → (b == 32) ≡ true → is_tab_after_spaces (b ∷ bs) ≡ false
    → is_tab_after_spaces bs ≡ false
tab-later b bs is_space plain = rw (is_space, one-add) at plain

tab-here : (b : ℕ) (bs : List ℕ) → (b == 32) ≡ false → is_tab_after_spaces (b ∷ bs) ≡ false → (b == 9) ≡ false
tab-here b bs other plain = rw other at plain

-- the same spaces stand at the front where the tabs are written out
leading-plain : (rest : List ℕ) (c : ℕ) → is_tab_after_spaces rest ≡ false
    → leading_spaces (written_out c rest) ≡ leading_spaces rest
leading-plain [] c plain = refl
leading-plain (b ∷ bs) c plain =
    bool_cases (b == 32)
    (λ yes.
    let e : b ≡ 32 = eqb-true b 32 yes in
    let later = leading-plain bs (c + 1) (tab-later b bs yes plain) in
    rw e (ap (λ n. 1 + n) later))
    (λ no.
    let tab = tab-here b bs no plain in
    let first = written-first c b bs in
    ap leading_spaces first.1 ∙ rw (tab, no) refl)

-- an indent up to five columns counts the spaces
counted-spaces : (prefix rest : List ℕ) (c : ℕ) → c ≤ 4 → is_tab_after_spaces (prefix ++ rest) ≡ false
    → all_go_on 5 c prefix ≡ true
    → ends_or_begins_with (λ b. not (goes_on 5 (column_past c prefix) b)) rest ≡ true
    → column_past c prefix + (if begins_with (λ b. b == 32) rest then 1 else 0)
    ≡ min (c + leading_spaces (prefix ++ rest)) 5
counted-spaces [] [] c few plain all stop = omega arith
counted-spaces [] (b ∷ rest) c few plain all stop =
    let stops : goes_on 5 c b ≡ false = not_true _ stop in
    bool_cases (b == 32)
    (λ yes.
    let full : (c + 1 == 5) ≡ true =
    bool_cases (c + 1 == 5) (λ y. y) (λ n. let goes : goes_on 5 c b ≡ true = rw (yes, n) refl in cc) in
    let five : c + 1 ≡ 5 = eqb-true (c + 1) 5 full in
    rw yes (omega arith))
    (λ no. rw no (omega arith))
counted-spaces (b ∷ prefix) rest c few plain all stop =
    let both = both_true (goes_on 5 c b) (all_go_on 5 (column_after c b) prefix) all in
    bool_cases (b == 32)
    (λ yes.
    let e : b ≡ 32 = eqb-true b 32 yes in
    let below : (c + 1 == 5) ≡ false =
    bool_cases (c + 1 == 5) (λ y. let stops : goes_on 5 c b ≡ false = rw (e, y) refl in let goes = both.0 in cc)
    (λ n. n) in
    let less : c + 1 ≤ 4 = grind (arith, nat_tests) in
    let next : column_after c b ≡ c + 1 = ap (column_after c) e in
    let later = counted-spaces prefix rest (c + 1) less (tab-later b (prefix ++ rest) yes plain)
    (rw next at both.1) (rw next at stop) in
    rw (next, yes) (omega (arith, later)))
    (λ no.
    let tab = tab-here b (prefix ++ rest) no plain in
    let stops : goes_on 5 c b ≡ false = rw (no, tab) refl in
    let goes = both.0 in
    cc)

indent-plain : (rest : List ℕ) (offset space : ℕ) → is_tab_after_spaces rest ≡ false → IsIndent rest 5 offset space
    → space ≡ min (leading_spaces rest) 5
indent-plain rest offset space plain indent =
    let all = counted-spaces indent.prefix indent.rest 0 (omega arith)
    (ap is_tab_after_spaces (sym indent.parts) ∙ plain) indent.passed indent.stopped in
    let lead : leading_spaces rest ≡ leading_spaces (indent.prefix ++ indent.rest) = ap leading_spaces indent.parts in
    omega (arith, indent.counted, all, lead)

-- the columns of an item
few_spaces : (k : ℕ) → k ≤ 3 → marker_spaces k ≡ k
few_spaces k few = let less : nat_lt k 4 ≡ true = lt-ltb k 4 (omega arith) in rw less refl

many_spaces : (k : ℕ) → 4 ≤ k → marker_spaces k ≡ 0
many_spaces k many = let more : nat_lt k 4 ≡ false = le-ltb k 4 many in rw more refl

full : (rest : List ℕ) (n : Bool) → is_blank rest ≡ n → ((k : ℕ) → ¬ IsBlankLine rest k) → n ≡ false
full rest false is none = refl
full rest true is none = absurd (none _ (is_blank-only rest is))

space-plain : (rest : List ℕ) (offset space : ℕ) → is_tab_after_spaces rest ≡ false → IsItemSpace rest offset space
    → space ≡ marker_columns rest
space-plain rest offset space plain (blank n line) = rw (is_blank-found rest (n, line)) refl
space-plain rest offset space plain (indented_code p s not_blank indent deep) =
    let other = full rest (is_blank rest) refl not_blank in
    let counted = indent-plain rest p s plain indent in
    let none = many_spaces (leading_spaces rest - 1) (omega (arith, counted, deep)) in
    rw (other, none) refl
space-plain rest offset space plain (text p s not_blank indent some few) =
    let other = full rest (is_blank rest) refl not_blank in
    let counted = indent-plain rest p s plain indent in
    let all = few_spaces (leading_spaces rest - 1) (omega (arith, counted, few)) in
    rw (other, all) (omega (arith, counted, some, few))

-- one column of space taken, and that is one byte
one_space : (line : List ℕ) (offset : ℕ) (bs : List ℕ) → drop offset line ≡ 32 ∷ bs
    → columns_further 1 (state_of line offset 0 offset) ≡ state_of line (offset + 1) 0 (offset + 1)
one_space line offset bs split =
    let less : nat_lt offset (offset + 1 - 0) ≡ true = lt-ltb offset (offset + 1 - 0) (omega arith) in
    let none : bytes_below (offset + 1) bs (offset + 1 - 0) ≡ 0 =
    none_below bs (offset + 1) (offset + 1 - 0) (omega arith) in
    let count : bytes_below offset (drop offset line) (offset + 1 - 0) ≡ 1 =
    ap (λ back. bytes_below offset back (offset + 1 - 0)) split ∙ below-cons offset 32 bs (offset + 1 - 0) refl
    ∙ rw (less, none) refl in
    let past : column_past offset (take 1 (drop offset line)) ≡ offset + 1 =
    ap (λ back. column_past offset (take 1 back)) split in
    let pending : 0 + (offset + 1) - (offset + 1) ≡ 0 = omega arith in
    further-column line offset 0 offset 1 ∙ rw (count, past, pending) refl

-- the further columns of a line start, where its offset is that of its column: without a space at the offset
no_space-further : (line : List ℕ) (offset : ℕ) (rest : List ℕ) → drop offset line ≡ rest
    → leading_spaces (written_out (offset % 4) rest) ≡ 0 → is_blank rest ≡ true
    → 1 + further_spaces (after_space 1 (state_of line offset 0 offset)) ≡ marker_columns rest
no_space-further line offset rest split none white =
    let at = state_of line offset 0 offset in
    let after = after_space 1 at in
    let lead : leading_spaces (rest_of at) ≡ 0 =
    ap (λ r. leading_spaces (written_out (offset % 4) r)) split ∙ none in
    let left : is_blank (unscanned after) ≡ true = ap is_blank (none_after at lead ∙ split) ∙ white in
    ap (λ t. 1 + cond t 0 (marker_spaces (leading_spaces (rest_of after)))) left
    ∙ sym (ap (λ t. 1 + cond t 0 (marker_spaces (leading_spaces rest - 1))) white)

-- and with one
space-further : (line : List ℕ) (offset : ℕ) (bs : List ℕ) → drop offset line ≡ 32 ∷ bs
    → is_tab_after_spaces bs ≡ false
    → 1 + further_spaces (after_space 1 (state_of line offset 0 offset)) ≡ marker_columns (32 ∷ bs)
space-further line offset bs split plain =
    let at = state_of line offset 0 offset in
    let lead : leading_spaces (rest_of at) ≡ 1 + leading_spaces (written_out (offset % 4 + 1) bs) =
    ap (λ r. leading_spaces (written_out (offset % 4) r)) split in
    let one : space_within 1 at ≡ 1 = omega (arith, lead) in
    let after : after_space 1 at ≡ state_of line (offset + 1) 0 (offset + 1) =
    ap (λ n. columns_further n at) one ∙ one_space line offset bs split in
    let next : drop (offset + 1) line ≡ bs = sym (drop-drop 1 offset line) ∙ ap (drop 1) split in
    let same = leading-plain bs ((offset + 1) % 4) plain in
    let further : further_spaces (after_space 1 at) ≡ cond (is_blank bs) 0 (marker_spaces (leading_spaces bs)) =
    ap further_spaces after
    ∙ ap (λ r. cond (is_blank r) 0 (marker_spaces (leading_spaces (written_out ((offset + 1) % 4) r)))) next
    ∙ ap (λ n. cond (is_blank bs) 0 (marker_spaces n)) same in
    let white : is_blank (32 ∷ bs) ≡ is_blank bs = ap (list_all is_white_space_in_line) (head-cons 32 bs refl) in
    let less : 1 + leading_spaces bs - 1 ≡ leading_spaces bs = omega arith in
    ap (λ n. 1 + n) further
    ∙ sym (ap (λ t. 1 + cond t 0 (marker_spaces (1 + leading_spaces bs - 1))) white
    ∙ ap (λ n. 1 + cond (is_blank bs) 0 (marker_spaces n)) less)

further-plain : (line : List ℕ) (offset : ℕ) (rest : List ℕ) → drop offset line ≡ rest
    → is_tab_after_spaces rest ≡ false → is_marker_rest rest ≡ true
    → 1 + further_spaces (after_space 1 (state_of line offset 0 offset)) ≡ marker_columns rest
further-plain line offset [] split plain follows = no_space-further line offset [] split refl refl
further-plain line offset (b ∷ bs) split plain follows =
    bool_cases (b == 32)
    (λ yes.
    let first : b ∷ bs ≡ 32 ∷ bs = ap (λ x. x ∷ bs) (eqb-true b 32 yes) in
    space-further line offset bs (split ∙ first) (tab-later b bs yes plain) ∙ sym (ap marker_columns first))
    (λ no.
    let tab = tab-here b bs no plain in
    let ends = rw (no, tab) at follows in
    let none : leading_spaces (b ∷ bs) ≡ 0 = rw no refl in
    no_space-further line offset (b ∷ bs) split (leading-plain (b ∷ bs) (offset % 4) plain ∙ none)
    (end-blank (b ∷ bs) ends))

abbrev content_of : Option (ℕ × ℕ × ℕ) → ℕ
content_of None = 0
content_of (Some r) = r.2

-- no thematic break stands where a line start finds a marker
found-no_break : (line : List ℕ) (r : ℕ × ℕ × ℕ) → item_at_start line ≡ Some r
    → is_thematic_break line ≡ false
found-no_break line r answer =
    bool_cases (is_thematic_break line)
    (λ yes. absurd (let none = answer-none line (break-no_marker line yes) in cc))
    (λ no. no)

-- both calls answer the same indent where no tab stands in the space after the marker
pub same_indent : (line : List ℕ) (n delimiter start indent content : ℕ)
    → is_before_tab line (list_marker line) ≡ false → IsListItem line n delimiter start indent
    → item_at_start line ≡ Some (delimiter, start, content) → content ≡ indent
same_indent line n delimiter start indent content plain item answer =
    let m : Marker = record { width = length item.marker; delimiter = delimiter; start = start } in
    let no_break = found-no_break line (delimiter, start, content) answer in
    let found : list_marker line ≡ Some m = ap list_marker item.parts
    ∙ marker-is item.marker item.rest delimiter start item.is_marker
    (λ one. ap is_thematic_break (sym item.parts) ∙ no_break) in
    let after : drop m.width line ≡ item.rest =
    ap (drop m.width) item.parts ∙ drop-append_seam item.marker item.rest in
    let rest : drop (0 + m.width) line ≡ item.rest = ap (λ k. drop k line) (zero-add m.width) ∙ after in
    let follows : is_marker_rest item.rest ≡ true =
    bool_cases (is_marker_rest item.rest) (λ y. y)
    (λ n. absurd (let none = answer-bare line m found (ap is_marker_rest after ∙ n) in cc)) in
    let follows_it : is_marker_rest (drop m.width line) ≡ true = ap is_marker_rest after ∙ follows in
    let no_tab : is_tab_after_spaces item.rest ≡ false =
    ap is_tab_after_spaces (sym after) ∙ ap (is_before_tab line) (sym found) ∙ plain in
    let counted = ap content_of (sym answer ∙ answer-is line m found follows_it) in
    let further = further-plain line (0 + m.width) item.rest rest no_tab follows in
    let space = space-plain item.rest item.offset item.space no_tab item.is_space in
    omega (arith, counted, further, space, item.columns_are)

-- so the line start answers the item without its length, where it is one to both
pub same_items : (line : List ℕ) (item : Option (ℕ × ℕ × ℕ × ℕ)) (marker : Option (ℕ × ℕ × ℕ))
    → SomeExactly (λ r. IsListItem line r.0 r.1 r.2 r.3) item → marker ≡ item_at_start line
    → is_item_alone line ≡ false → is_before_tab line (list_marker line) ≡ false
    → option_map (λ r. (r.1, r.2, r.3)) item ≡ marker
same_items line (Some r) marker is answer alone plain =
    let has = item_is_marker line r.1 r.2 alone (r.0, r.3, is) in
    let indent : has.0 ≡ r.3 = same_indent line r.0 r.1 r.2 r.3 has.0 plain is has.1 in
    sym (answer ∙ has.1 ∙ ap (λ c. Some (r.1, r.2, c)) indent)
same_items line None None is answer alone plain = refl
same_items line None (Some p) is answer alone plain =
    let item = marker_is_item line p.0 p.1 (p.2, sym answer) in
    absurd (is (item.0, p.0, p.1, item.1) item.2)
