-- What may stand after a list marker, to the two calls that look for a list item.
use Rattle.std.specs.Prelude.{ℕ, not, Bool, true, false, ◌≡◌, refl, ◌==◌, ◌||◌, nat_lt, List, [], ◌∷◌, ◌++◌, ◌+◌, ◌-◌, ◌<◌, ◌≤◌, length, if◌then◌else◌}
use Rattle.std.proofs.Common.{sym, ◌∙◌, ap, inl, inr, arith}
use Rattle.std.specs.List.{list_all}
use Rattle.std.proofs.lemmas.Bool.{lt-ltb, cases_lt}
use Rattle.std.proofs.lemmas.Bool.Decides.{nat_tests}
use Rattle.markdown_scanners_tree.specs.Bytes.{begins_with, ends_or_begins_with, is_between, is_space_or_tab, is_white_space_in_line, is_line_ending}
use Rattle.markdown_scanners_tree.specs.Bytes.{is_at_line_end, line_head, line_length, IsBlankLine, is_blank}
use Rattle.markdown_scanners_tree.specs.Columns.{column_after, column_past, written_out}
use Rattle.markdown_scanners_tree.specs.line.ItemRules.{is_blank_from_vertical}
use Rattle.markdown_scanners_tree.specs.line.State.{leading_spaces}
use Rattle.markdown_scanners_tree.specs.scanners.Indent.{goes_on, all_go_on, IsIndent}
use Rattle.markdown_scanners_tree.specs.scanners.list_items.ListItem.{IsItemSpace, blank, indented_code, text}
use Rattle.markdown_scanners_tree.proofs.PrefixLemmas.{both_true}
use Rattle.markdown_scanners_tree.proofs.RunLemmas.{not_true, not_false}
use Rattle.markdown_scanners_tree.proofs.line.ColumnLemmas.{after-more, bool_cases}
use Rattle.markdown_scanners_tree.proofs.line.WrittenLemmas.{written-first, head-cons}
use Rattle.markdown_scanners_tree.proofs.scanners.lines.BlankLemmas.{is_blank-found, is_blank-only}

-- what belongs to an item begins with a space or a tab, or is blank
abbrev pub is_item_rest : List ℕ → Bool
is_item_rest rest = is_blank rest || begins_with is_space_or_tab rest

-- after the marker of a line start a space or a tab stands, or the line ends
abbrev pub is_marker_rest : List ℕ → Bool
is_marker_rest rest = begins_with is_space_or_tab rest || is_at_line_end rest

-- bytes that are cut where they stop going on
record Cut (limit c : ℕ) (bytes : List ℕ) : Type 0 where
  prefix : List ℕ
  rest : List ℕ
  parts : bytes ≡ prefix ++ rest
  passed : all_go_on limit c prefix ≡ true
  stopped : ends_or_begins_with (λ b. not (goes_on limit (column_past c prefix) b)) rest ≡ true

cut : (limit : ℕ) (bytes : List ℕ) (c : ℕ) → Cut limit c bytes
cut limit [] c = record { prefix = []; rest = []; parts = refl; passed = refl; stopped = refl }
cut limit (b ∷ bytes) c =
    bool_cases (goes_on limit c b)
    (λ goes.
    let more = cut limit bytes (column_after c b) in
    record {
      prefix = b ∷ more.prefix;
      rest = more.rest;
      parts = ap (λ t. b ∷ t) more.parts;
      passed = rw goes more.passed;
      stopped = more.stopped;
    })
    (λ stops. record {
      prefix = [];
      rest = b ∷ bytes;
      parts = refl;
      passed = refl;
      stopped = not_false (goes_on limit c b) stops;
    })

past-grows : (bs : List ℕ) (c : ℕ) → c ≤ column_past c bs
past-grows [] c = omega arith
past-grows (b ∷ bs) c = omega (arith, after-more c b, past-grows bs (column_after c b))

-- up to five columns a space or a tab at the front goes on
some_column : (prefix rest : List ℕ) → begins_with is_space_or_tab (prefix ++ rest) ≡ true
    → ends_or_begins_with (λ b. not (goes_on 5 (column_past 0 prefix) b)) rest ≡ true → 0 < column_past 0 prefix
some_column [] [] begins stop = cc
some_column [] (b ∷ rest) begins stop =
    let goes : goes_on 5 0 b ≡ true =
    bool_cases (b == 32) (λ yes. rw yes refl)
    (λ no. let tab : (b == 9) ≡ true = rw no at begins in rw (no, tab) refl) in
    let stops : goes_on 5 0 b ≡ false = not_true _ stop in
    cc
some_column (b ∷ prefix) rest begins stop =
    omega (arith, after-more 0 b, past-grows prefix (column_after 0 b))

-- space after a marker belongs to the item
pub blank_space : (rest : List ℕ) → is_blank rest ≡ true → IsItemSpace rest 0 1
blank_space rest is = blank (line_length rest) (is_blank-only rest is)

full_space : (rest : List ℕ) → is_blank rest ≡ false → begins_with is_space_or_tab rest ≡ true
    → (offset : ℕ) × (space : ℕ) × IsItemSpace rest offset space
full_space rest full begins =
    let at = cut 5 rest 0 in
    let some : 0 < column_past 0 at.prefix =
    some_column at.prefix at.rest (ap (begins_with is_space_or_tab) (sym at.parts) ∙ begins) at.stopped in
    let offset = (if begins_with (λ b. true) at.rest then length at.prefix else length at.prefix - 1) in
    let space = column_past 0 at.prefix + (if begins_with (λ b. b == 32) at.rest then 1 else 0) in
    let indent : IsIndent rest 5 offset space = record {
      prefix = at.prefix;
      rest = at.rest;
      parts = at.parts;
      passed = at.passed;
      stopped = at.stopped;
      last_offset = refl;
      counted = refl;
    } in
    let none : (n : ℕ) → ¬ IsBlankLine rest n = λ n line. (let is = is_blank-found rest (n, line) in cc) in
    elim (cases_lt 4 space) [
      | inl deep ↦ (1, 1, indented_code offset space none indent deep)
      | inr few ↦ (offset, space, text offset space none indent (omega (arith, some)) few)
    ]

pub item_space-found : (rest : List ℕ) → is_item_rest rest ≡ true
    → (offset : ℕ) × (space : ℕ) × IsItemSpace rest offset space
item_space-found rest is =
    bool_cases (is_blank rest)
    (λ yes. (0, 1, blank_space rest yes))
    (λ no. full_space rest no (rw no at is))

-- an indent of some column begins with a space or a tab
spaced : (prefix rest : List ℕ) → all_go_on 5 0 prefix ≡ true
    → 0 < column_past 0 prefix + (if begins_with (λ b. b == 32) rest then 1 else 0)
    → begins_with is_space_or_tab (prefix ++ rest) ≡ true
spaced [] [] passed some = absurd (omega (arith, some))
spaced [] (b ∷ rest) passed some =
    bool_cases (b == 32) (λ yes. rw yes refl) (λ no. absurd (let none = rw no at some in omega (arith, none)))
spaced (b ∷ prefix) rest passed some =
    let goes : goes_on 5 0 b ≡ true = (both_true (goes_on 5 0 b) (all_go_on 5 (column_after 0 b) prefix) passed).0 in
    bool_cases (b == 32) (λ yes. rw yes refl)
    (λ no.
    bool_cases (b == 9) (λ tab. rw (no, tab) refl)
    (λ other. absurd (let stops : goes_on 5 0 b ≡ false = rw (no, other) refl in cc)))

indent-begins : (rest : List ℕ) (offset space : ℕ) → IsIndent rest 5 offset space → 0 < space
    → begins_with is_space_or_tab rest ≡ true
indent-begins rest offset space indent some =
    ap (begins_with is_space_or_tab) indent.parts
    ∙ spaced indent.prefix indent.rest indent.passed (omega (arith, indent.counted, some))

pub or_true : (b : Bool) → (b || true) ≡ true
or_true true = refl
or_true false = refl

pub item_space-only : (rest : List ℕ) (offset space : ℕ) → IsItemSpace rest offset space → is_item_rest rest ≡ true
item_space-only rest offset space (blank n line) = rw (is_blank-found rest (n, line)) refl
item_space-only rest offset space (indented_code p s full indent deep) =
    rw (indent-begins rest p s indent (omega (arith, deep))) (or_true (is_blank rest))
item_space-only rest offset space (text p s full indent some few) =
    rw (indent-begins rest p s indent some) (or_true (is_blank rest))

-- what a line start looks at after the marker: a column of space, or the end of the line
lead-written : (b : ℕ) (more : List ℕ) → nat_lt 0 (leading_spaces ((if b == 9 then 32 else b) ∷ more)) ≡ is_space_or_tab b
lead-written b more =
    let some : nat_lt 0 (1 + leading_spaces more) ≡ true = lt-ltb 0 (1 + leading_spaces more) (omega arith) in
    bool_cases (b == 9)
    (λ tab. bool_cases (b == 32) (λ yes. rw (tab, some, yes) refl) (λ no. rw (tab, some, no) refl))
    (λ plain. bool_cases (b == 32) (λ yes. rw (plain, yes, some) refl) (λ no. rw (plain, no) refl))

pub marker_rest-written : (c : ℕ) (rest : List ℕ)
    → (nat_lt 0 (leading_spaces (written_out c rest)) || is_at_line_end rest) ≡ is_marker_rest rest
marker_rest-written c [] = refl
marker_rest-written c (b ∷ bs) =
    let first = written-first c b bs in
    ap (λ t. t || is_line_ending b) (ap (λ w. nat_lt 0 (leading_spaces w)) first.1 ∙ lead-written b first.0)

-- where the line ends its rest is blank
pub end-blank : (rest : List ℕ) → is_at_line_end rest ≡ true → is_blank rest ≡ true
end-blank [] ends = refl
end-blank (b ∷ bs) ends = rw ends refl

pub marker_rest-item : (rest : List ℕ) → is_marker_rest rest ≡ true → is_item_rest rest ≡ true
marker_rest-item rest is =
    bool_cases (begins_with is_space_or_tab rest)
    (λ yes. rw yes (or_true (is_blank rest)))
    (λ no. let white : is_blank rest ≡ true = end-blank rest (rw no at is) in rw white refl)

-- white space in the line is a space, a tab, or vertical
no_white : (space tab vertical : Bool) → (space || tab) ≡ false → vertical ≡ false → (tab || vertical || space) ≡ true → ⊥
no_white true tab vertical h v all = cc
no_white false true vertical h v all = cc
no_white false false true h v all = cc
no_white false false false h v all = cc

ends-line : (rest : List ℕ) → is_blank rest ≡ true → begins_with is_space_or_tab rest ≡ false
    → begins_with (is_between 11 12) rest ≡ false → is_at_line_end rest ≡ true
ends-line [] is space vertical = refl
ends-line (b ∷ bs) is space vertical =
    bool_cases (is_line_ending b) (λ ends. ends)
    (λ goes.
    let all : list_all is_white_space_in_line (b ∷ line_head bs) ≡ true =
    ap (list_all is_white_space_in_line) (sym (head-cons b bs goes)) ∙ is in
    let white = (both_true (is_white_space_in_line b) (list_all is_white_space_in_line (line_head bs)) all).0 in
    absurd (no_white (b == 32) (b == 9) (is_between 11 12 b) space vertical white))

-- the two differ where a blank rest begins with vertical white space
pub item_rest-marker : (rest : List ℕ) → is_item_rest rest ≡ true → is_blank_from_vertical rest ≡ false
    → is_marker_rest rest ≡ true
item_rest-marker rest is fine =
    bool_cases (begins_with is_space_or_tab rest)
    (λ yes. rw yes refl)
    (λ no.
    let is_white : is_blank rest ≡ true = bool_cases (is_blank rest) (λ y. y) (λ n. let none = rw (n, no) at is in cc) in
    let vertical : begins_with (is_between 11 12) rest ≡ false =
    bool_cases (begins_with (is_between 11 12) rest) (λ y. let bad = rw (y, is_white) at fine in cc) (λ n. n) in
    let ends = ends-line rest is_white no vertical in
    rw (no, ends) refl)

pub vertical_no_marker : (rest : List ℕ) → begins_with (is_between 11 12) rest ≡ true → is_marker_rest rest ≡ false
vertical_no_marker [] begins = cc
vertical_no_marker (b ∷ bs) begins = grind (arith, nat_tests)
