-- Worked rows, computed from the definitions.
use Rattle.std.proofs.Common.{ℕ, ◌≡◌, refl, List, [], ◌∷◌, ◌++◌, Option, Some, None, true, false, ◌^◌, ◌-◌, codes}
use Rattle.markdown_scanners_tree.specs.Bytes.{blank_line}
use Rattle.markdown_scanners_tree.specs.line.State.{after_space}
use Rattle.markdown_scanners_tree.specs.line.Outcome.{after_all_space}
use Rattle.markdown_scanners_tree.specs.line.ItemRules.{is_item_alone, is_before_tab}
use Rattle.markdown_scanners_tree.specs.line.run.PlainRun.{plain_run, indexed_stop, rest_after, scanned_after}
use Rattle.markdown_scanners_tree.specs.scanners.Breaks.{is_thematic_break}
use Rattle.markdown_scanners_tree.specs.scanners.list_items.ListMarker.{list_marker}
use Rattle.markdown_scanners_tree.specs.declared.line.run.LineAnswer.{LineAnswer}
use Rattle.markdown_scanners_tree.specs.declared.line.run.LineAnswer.TheVariants.{Flag, Count}
use Rattle.markdown_scanners_tree.specs.declared.line.run.LineCall.{LineCall}
use Rattle.markdown_scanners_tree.specs.declared.line.run.LineCall.TheVariants.{Space, Upto, Eol, Quote}
use Rattle.markdown_scanners_tree.specs.declared.line.run.LineStop.{LineStop}
use Rattle.markdown_scanners_tree.specs.declared.line.run.LineStop.TheVariants.{SpacePending}

-- what a run of calls on a line shows
record Shown : Type 0 where
  answers : List LineAnswer
  stop : Option (ℕ × LineStop)
  rest : List ℕ
  scanned : ℕ

abbrev shown : List ℕ → List LineCall → Shown
shown line calls = let run = plain_run line calls in
    record {
      answers = run.answers;
      stop = indexed_stop run;
      rest = rest_after line run;
      scanned = scanned_after line run;
    }

abbrev shows : List LineAnswer → Option (ℕ × LineStop) → List ℕ → ℕ → Shown
shows answers stop rest scanned = record { answers = answers; stop = stop; rest = rest; scanned = scanned }

upto_over_a_tab : shown (9 ∷ 120 ∷ []) (Upto 3 ∷ Upto 5 ∷ []) ≡ shows (Count 3 ∷ Count 1 ∷ []) None (codes "x") 1
upto_over_a_tab = refl

line_end_inside_a_tab : shown (9 ∷ 120 ∷ []) (Upto 3 ∷ Eol ∷ [])
    ≡ shows (Count 3 ∷ []) (Some (1, SpacePending)) (codes " x") 1
line_end_inside_a_tab = refl

quote_and_two_tabs : shown (62 ∷ 9 ∷ 9 ∷ 120 ∷ []) (Quote ∷ Upto 9 ∷ [])
    ≡ shows (Flag true ∷ Count 6 ∷ []) None (codes "x") 3
quote_and_two_tabs = refl

quote_takes_one_column : shown (62 ∷ 9 ∷ 45 ∷ []) (Quote ∷ []) ≡ shows (Flag true ∷ []) None (codes "  -") 2
quote_takes_one_column = refl

three_spaces : shown (codes "   x") (Upto 2 ∷ Space 1 ∷ Eol ∷ [])
    ≡ shows (Count 2 ∷ Flag true ∷ Flag false ∷ []) None (codes "x") 3
three_spaces = refl

no_space : shown (codes "x") (Space 1 ∷ []) ≡ shows (Flag false ∷ []) None (codes "x") 0
no_space = refl

line_end_after_spaces : shown (32 ∷ 32 ∷ 10 ∷ 120 ∷ []) (Upto 9 ∷ Eol ∷ [])
    ≡ shows (Count 2 ∷ Flag true ∷ []) None (10 ∷ 120 ∷ []) 2
line_end_after_spaces = refl

end_after_spaces : shown (codes "   ") (Space 4 ∷ Eol ∷ []) ≡ shows (Flag false ∷ Flag true ∷ []) None [] 3
end_after_spaces = refl

no_calls : shown (codes "a") [] ≡ shows [] None (codes "a") 0
no_calls = refl

largest_number : shown (codes " x") (Upto (2 ^ 64 - 1) ∷ []) ≡ shows (Count 1 ∷ []) None (codes "x") 1
largest_number = refl

-- the tabs of the line's head alone are written out
tab_after_the_line : shown (120 ∷ 9 ∷ 10 ∷ 9 ∷ []) [] ≡ shows [] None (120 ∷ 32 ∷ 32 ∷ 32 ∷ 10 ∷ 9 ∷ []) 0
tab_after_the_line = refl

-- three columns from an offset at column 1 modulo four with one column pending, of which two are those of a tab
from_inside_a_line : after_space 3 (record { bytes = 120 ∷ 32 ∷ 9 ∷ 120 ∷ []; offset = 1; pending = 1; phase = 1 })
    ≡ record { bytes = 120 ∷ 32 ∷ 9 ∷ 120 ∷ []; offset = 3; pending = 1; phase = 0 }
from_inside_a_line = refl

all_space : after_all_space (record { bytes = 32 ∷ 9 ∷ 120 ∷ []; offset = 0; pending = 0; phase = 0 })
    ≡ record { bytes = 32 ∷ 9 ∷ 120 ∷ []; offset = 2; pending = 0; phase = 2 }
all_space = refl

three_markers : is_thematic_break (codes "* * *" ++ 10 ∷ 120 ∷ []) ≡ true
three_markers = refl

two_markers : is_thematic_break (codes "- -" ++ 10 ∷ 45 ∷ []) ≡ false
two_markers = refl

mixed_markers : is_thematic_break (codes "-*-") ≡ false
mixed_markers = refl

space_before_markers : is_thematic_break (codes " ***") ≡ false
space_before_markers = refl

blank_before_cr_lf : blank_line (32 ∷ 9 ∷ 13 ∷ 10 ∷ 120 ∷ []) ≡ Some 4
blank_before_cr_lf = refl

blank_before_cr_cr : blank_line (13 ∷ 13 ∷ 10 ∷ []) ≡ Some 1
blank_before_cr_cr = refl

blank_end : blank_line [] ≡ Some 0
blank_end = refl

not_blank : blank_line (codes " x") ≡ None
not_blank = refl

-- "-" or "1.", then a vertical tab or a form feed, and the line's end
item_alone_vertical : (is_item_alone (45 ∷ 11 ∷ 10 ∷ []) ≡ true) × (is_item_alone (49 ∷ 46 ∷ 12 ∷ []) ≡ true)
unfolding is_item_alone
item_alone_vertical = (refl, refl)

item_alone_break : (is_item_alone (codes "- - -") ≡ true) × (is_item_alone (codes "---") ≡ false)
unfolding is_item_alone
item_alone_break = (refl, refl)

-- with a space before the vertical tab, or a letter after it
no_item_alone : (is_item_alone (45 ∷ 32 ∷ 11 ∷ 10 ∷ []) ≡ false) × (is_item_alone (45 ∷ 11 ∷ 120 ∷ []) ≡ false)
unfolding is_item_alone
no_item_alone = (refl, refl)

-- "-", a space, a tab; "-", spaces, "x", a tab
tab_behind_a_marker : (is_before_tab (45 ∷ 32 ∷ 9 ∷ []) (list_marker (45 ∷ 32 ∷ 9 ∷ [])) ≡ true)
    × (is_before_tab (45 ∷ 32 ∷ 120 ∷ 9 ∷ []) (list_marker (45 ∷ 32 ∷ 120 ∷ 9 ∷ [])) ≡ false)
tab_behind_a_marker = (refl, refl)
