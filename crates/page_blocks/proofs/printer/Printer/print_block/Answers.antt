use Rattle.std.proofs.Common.{ℕ, List, [], ◌∷◌, ◌++◌, ◌≡◌, Option, string_bytes, refl, sym, ap, ◌∙◌, subst, append_assoc, append-nil}
use Rattle.markdown_blocks.specs.events.Events.{Event, seen_event}
use Rattle.markdown_blocks.specs.events.Shown.{AreShown, IsWrittenIn, Shown, Written}
use Rattle.markdown_blocks.proofs.ForCallers.{one_written, shown_next}
use Rattle.page_blocks.specs.declared.arguments.Form.{Form}
use Rattle.page_blocks.specs.Definition.{shown_of}
use Rattle.page_blocks.specs.Printed.{Printed, after, after_all, event_lines, lines_of_events}
use Rattle.page_blocks.specs.Printers.{printed_of}
use Rattle.page_blocks.proofs.printer.Printer.print_block.Goals as goal

-- the lines of an event, and of those after it
one_more : (form same : Form) (p next : Printed) (text longer : List ℕ) (shown : Shown) (later : List Shown) → same ≡ form
    → next ≡ after p shown.event → longer ≡ text ++ event_lines form p shown
    → longer ++ lines_of_events same next later ≡ text ++ lines_of_events form p (shown ∷ later)
one_more form same p next text longer shown later form_is next_is prints =
    ap (λ t. t ++ lines_of_events same next later) prints
    ∙ append_assoc text (event_lines form p shown) (lines_of_events same next later)
    ∙ ap (λ f. text ++ (event_lines form p shown ++ lines_of_events f next later)) form_is
    ∙ ap (λ (q : Printed). text ++ (event_lines form p shown ++ lines_of_events form q later)) next_is

-- what is written in an event, and in those after it
written_more : (content : List ℕ) (event : Event) (written other : Option Written) (rest left : List ℕ) (later : List Event) (more : List Shown)
    → IsWrittenIn content event written rest → IsWrittenIn content event other left → AreShown left later more
    → AreShown content (event ∷ later) (record { event = event; written = written } ∷ more)
written_more content event written other rest left later more is next are =
    let same = one_written content event written other rest left is next in
    (written, rest, more, is, refl, subst (λ r. AreShown r later more) (sym same.1) are)

pub loop-event-preserved : goal.loop-event-preserved
loop-event-preserved c = record {
  lines = λ later more gives are.
      let event = seen_event c.in-Some.event in
      let one = shown_of c.in-Some.event c.definition_of.result in
      let next = shown_next c.args.content.now c.loop-event.events.used c.next.new.self.used event c.in-Some.ensures.used in
      let here = subst (λ t. IsWrittenIn t event one.written c.definition_of.ensures.0) c.loop-event.invariant.left c.definition_of.ensures.1 in
      let before = c.loop-event.invariant.lines (event ∷ later) (one ∷ more) (c.in-Some.ensures.event later gives)
      (written_more _ event one.written next.0 c.definition_of.ensures.0 _ later more here next.1 are) in (
        before.0,
        before.1,
        before.2,
        before.3,
        one_more c.loop-event.self.form c.print.new.self.form (printed_of c.loop-event.self) (printed_of c.print.new.self)
            (string_bytes c.loop-event.self.text) (string_bytes c.print.new.self.text) one more
            c.in_ok-print.ensures.form c.in_ok-print.ensures.so_far c.in_ok-print.ensures.lines ∙ before.4,
        ap (λ (q : Printed). after_all q more) c.in_ok-print.ensures.so_far ∙ before.5,
      );
  left = c.content_left-left-in-Some.ensures;
  form = c.in_ok-print.ensures.form ∙ c.loop-event.invariant.form;
}

pub returns-clause-lines : goal.returns-clause-lines
returns-clause-lines c =
    let all = c.loop-event.invariant.lines [] [] c.in_default.ensures.none refl in
    record {
      events = all.0;
      given = all.2;
      shown = all.1;
      are_shown = all.3;
      lines = sym (append-nil (string_bytes c.loop-event.self.text)) ∙ all.4;
      so_far = all.5;
    }
