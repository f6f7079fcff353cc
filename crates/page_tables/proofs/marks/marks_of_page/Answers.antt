use Rattle.std.proofs.Common.{[], ◌∷◌, ◌++◌, map, sym, ap, subst, ◌∙◌, append_assoc, append-nil}
use Rattle.std.specs.List.{flat_map}
use Rattle.markdown_events.specs.InlineEvents.{seen_event}
use Rattle.markdown_events.specs.page.PageEvents.{ArePageEvents}
use Rattle.page_tables.specs.Marks.{mark_view, marks_of}
use Rattle.page_tables.proofs.marks.marks_of_page.Goals as goal

pub loop-marks-init : goal.loop-marks-init
loop-marks-init c = λ later gives. record {
  events = later;
  are_events = subst (λ s. ArePageEvents c.args.page.now s later) c.with_tables.ensures (c.in_ok-reader.ensures.page later gives);
  are_marks = ap (λ t. map mark_view t ++ flat_map marks_of later) c.new-marks.ensures.items;
}

pub loop-marks-preserved : goal.loop-marks-preserved
loop-marks-preserved c = λ later gives.
    let given = rw c.in-Some.is at c.in_ok-event.ensures.event in
    let whole = c.loop-marks.invariant (seen_event c.in-Some.event ∷ later) (given later gives) in record {
      events = whole.events;
      are_events = whole.are_events;
      are_marks = ap (λ t. t ++ flat_map marks_of later) c.in_ok-push_mark.ensures
          ∙ append_assoc (map mark_view c.loop-marks.marks.items) (marks_of (seen_event c.in-Some.event)) (flat_map marks_of later)
          ∙ whole.are_marks;
    }

pub returns : goal.returns
returns c =
    let none = rw c.in_default.is at c.in_ok-event.ensures.none in
    let whole = c.loop-marks.invariant [] none in record {
      events = whole.events;
      are_events = whole.are_events;
      are_marks = sym (append-nil (map mark_view c.loop-marks.marks.items)) ∙ whole.are_marks;
    }
