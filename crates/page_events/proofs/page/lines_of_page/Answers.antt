use Rattle.std.proofs.Common.{[], ◌∷◌, ◌++◌, string_bytes, sym, ap, ◌∙◌, append_assoc, append-nil}
use Rattle.std.specs.List.{flat_map}
use Rattle.markdown_events.specs.InlineEvents.{seen_event}
use Rattle.page_events.specs.Printed.{line_in}
use Rattle.page_events.proofs.page.lines_of_page.Goals as goal

pub loop-text-init : goal.loop-text-init
loop-text-init c = λ later gives. (
  later,
  c.in_ok-reader.ensures.page later gives,
  ap (λ t. t ++ flat_map (line_in c.args.form) later) c.new-text.ensures.bytes,
)

pub loop-text-preserved : goal.loop-text-preserved
loop-text-preserved c = λ later gives.
    let given = rw c.in-Some.is at c.in_ok-event.ensures.event in
    let whole = c.loop-text.invariant (seen_event c.in-Some.event ∷ later) (given later gives) in
    let line = line_in c.args.form (seen_event c.in-Some.event) in (
      whole.0,
      whole.1,
      ap (λ t. t ++ flat_map (line_in c.args.form) later) c.in_ok-push_given.ensures
          ∙ append_assoc (string_bytes c.loop-text.text) line (flat_map (line_in c.args.form) later) ∙ whole.2,
    )

pub returns : goal.returns
returns c =
    let none = rw c.in_default.is at c.in_ok-event.ensures.none in
    let whole = c.loop-text.invariant [] none in
    record {
      events = whole.0;
      is_text = c.utf8.page;
      are_events = whole.1;
      are_lines = sym (append-nil (string_bytes c.loop-text.text)) ∙ whole.2;
    }
