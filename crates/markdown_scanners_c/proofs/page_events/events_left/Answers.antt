use Rattle.std.proofs.Common.{◌++◌, ◌+◌, ◌∷◌, [], ◌≡◌, ℕ, List, length, string_bytes, sym, ap, refl, ◌∙◌, append_assoc, append-nil}
use Rattle.std.proofs.lemmas.List.{length-append}
use Rattle.markdown_events.specs.InlineEvents.{seen_event}
use Rattle.markdown_scanners_c.specs.EventRecords.{event_record, event_words, records_from, texts_of}
use Rattle.markdown_scanners_c.specs.declared.event_records.PageEvent.{PageEvent}
use Rattle.markdown_scanners_c.proofs.page_events.events_left.Goals as goal

pub loop-texts-init : goal.loop-texts-init
loop-texts-init c = λ later gives. (
  later,
  gives,
  rw (c.new-events.ensures.items, c.new-texts.ensures.bytes) refl,
  rw c.new-texts.ensures.bytes refl,
)

pub loop-texts-preserved : goal.loop-texts-preserved
loop-texts-preserved c = λ later gives.
    let given = rw c.in-Some.is at c.in_ok-event.ensures.event in
    let event = seen_event c.in-Some.event in
    let whole = c.loop-texts.invariant (event ∷ later) (given later gives) in
    let events = c.loop-texts.events.items in
    let texts = string_bytes c.loop-texts.texts in
    let words = event_words event.0 in
    let after : length texts + length words ≡ length (string_bytes c.add_event.new.texts) =
    sym (ap length c.in_ok-add_event.ensures.words ∙ length-append texts words) in
    let later_records : List PageEvent = records_from (length texts + length words) later in (
      whole.0,
      whole.1,
      whole.2 ∙ sym (append_assoc events (event_record (length texts) event ∷ []) later_records)
          ∙ ap (λ es. es ++ later_records) (sym c.in_ok-add_event.ensures.returned)
          ∙ ap (λ n. c.add_event.new.events.items ++ records_from n later) after,
      whole.3 ∙ sym (append_assoc texts words (texts_of later))
          ∙ ap (λ ts. ts ++ texts_of later) (sym c.in_ok-add_event.ensures.words),
    )

pub returns : goal.returns
returns c =
    let none = rw c.in_default.is at c.in_ok-event.ensures.none in
    let whole = c.loop-texts.invariant [] none in (
      whole.0,
      whole.1,
      sym (whole.2 ∙ append-nil c.loop-texts.events.items),
      sym (whole.3 ∙ append-nil (string_bytes c.loop-texts.texts)),
    )
