-- The tables of a page, and what they say.
use Rattle.std.proofs.Common.{ℕ, List, [], ◌∷◌, ◌≡◌, length, map, refl, sym, ap, ◌∙◌, arith}
use Rattle.std.specs.List.{flat_map}
use Rattle.markdown_events.proofs.ForCallers.{one_list_of_page_events}
use Rattle.page_tables.specs.Formatted.{seen_from}
use Rattle.page_tables.specs.Marks.{AreMarksOf, MarkView, mark_view, marks_of, with_tables}
use Rattle.page_tables.specs.declared.marks.Mark.{Mark}

-- a page has one list of tables
pub one_list_of_marks : (page : List ℕ) (marks others : List MarkView) → AreMarksOf page marks → AreMarksOf page others → marks ≡ others
one_list_of_marks page marks others h k =
    h.are_marks ∙ ap (flat_map marks_of) (one_list_of_page_events page with_tables h.events k.events h.are_events k.are_events)
    ∙ sym k.are_marks

-- no marks say nothing, and no others do
pub none_seen : (page : List ℕ) (columns : ℕ) (marks : List Mark) → length marks ≡ 0 → seen_from page columns (map mark_view marks) ≡ []
none_seen page columns [] none = refl
none_seen page columns (mark ∷ later) none = absurd (omega (arith, none))

pub seen_none : (page : List ℕ) (columns : ℕ) (marks : List Mark) → seen_from page columns (map mark_view marks) ≡ [] → length marks ≡ 0
seen_none page columns [] none = refl
seen_none page columns (mark ∷ later) none = let more = ap length none in absurd (omega (arith, more))
