-- The handler leaves out what a search in the table tells, and nothing else.
use Rattle.std.proofs.Common.{◌∙◌, sym, refl, ap, inl, inr, rules, of_calls, arith, length, drop}
use Rattle.std.proofs.lemmas.Bool.{false≢true}
use Rattle.std.proofs.lemmas.List.{take_rest, length-drop}
use Rattle.markdown_values.specs.strings.Text.{is_borrowed}
use Rattle.markdown_scanners_tree.specs.linklabel.Answer.{answered_label}
use Rattle.markdown_scanners_tree.specs.linklabel.Label.{IsLabel}
use Rattle.markdown_scanners_tree.proofs.ForCallers.{label_of_more}
use Rattle.markdown_scanners_c.specs.Labels.{IsLabelText, IsStart}
use Rattle.markdown_scanners_c.specs.private.LabelText.{returned_ascii, ReturnedAscii}
use Rattle.markdown_scanners_c.proofs.LabelLemmas.{given_length, label_changed, no_refused_label, started, returned_front, label_of_returned, label_as_returned}
use Rattle.markdown_scanners_c.proofs.labels.label_at.Goals as goal

pub returns-in-Ok-Some : goal.returns-in-Ok-Some
unfolding IsLabelText
returns-in-Ok-Some c =
    let bytes = c.args.bytes.now in
    let skips = c.args.skips.now in
    let start = c.args.start in
    let t = c.args.is_in_table in
    let source = take_rest bytes start in
    let found = rw (c.in-Ok-Some.field-0-is, source) at c.in-Ok-Some.ensures.found in
    let within = rw c.in-Ok-Some.field-0-is at c.in-Ok-Some.ensures.within in
    let room = rw c.in-Ok-Some.field-0-is at c.in-Ok-Some.ensures.room in
    let slice = rw (c.in-Ok-Some.field-0-is, source) at c.in-Ok-Some.ensures.slice in
    let label = answered_label (c.in-Ok-Some.taken, c.in-Ok-Some.label) in
    let returned : IsLabel (ReturnedAscii skips bytes) (drop start bytes) t label =
    label_of_more _ (ReturnedAscii skips bytes)
    (λ rest skip x. ap (returned_ascii skips bytes) (sym x.shows) ∙ sym x.says.met) (drop start bytes) t label found.0 in
    let offset = rw source at c.start_of-offset.ensures in
    let starts : IsStart bytes label c.start_of-offset.result =
    started bytes start c.requires.within label c.in-Ok-Some.taken c.start_of-offset.result (is_borrowed c.in-Ok-Some.label) refl
    offset slice in
    let w = c.write_label-status in
    let given = w.ensures.written in
    record {
      label = λ after stand ascii. inr (inr (
        label,
        (label_of_returned skips bytes after stand ascii start t label returned, found.1),
        omega (arith, w.ensures.taken),
        starts,
        given,
      ));
      there = no_refused_label _ _ _ _ _ _ given;
      within = omega (arith, within, w.ensures.taken, ap length source, length-drop start bytes, c.requires.within);
      room = omega (arith, w.ensures.taken, given_length _ _ _ _ _ _ given, room);
      kept = label_changed _ _ _ _ _ _ given;
    }

pub returns-in-Ok-None-clause-label : goal.returns-in-Ok-None-clause-label
unfolding IsLabelText
returns-in-Ok-None-clause-label c after stand ascii =
    let bytes = c.args.bytes.now in
    let skips = c.args.skips.now in
    let none = rw (c.in-Ok-None.field-0-is, take_rest bytes c.args.start) at c.in-Ok-None.ensures.found in
    inl (
      c.no_label.ensures,
      refl,
      λ label is. none label (
        label_of_more (ReturnedAscii skips bytes) _
            (λ rest skip returned. record { shown = record c.args.bytes { now = rest }; shows = refl; says = record { met = sym returned } })
            (drop c.args.start bytes) c.args.is_in_table label
            (label_as_returned skips bytes after stand ascii c.args.start c.args.is_in_table label is.0),
        is.1,
      ),
    )

pub returns-in-Err-clause-label : goal.returns-in-Err-clause-label
unfolding IsLabelText
returns-in-Err-clause-label c after stand ascii =
    let bytes = c.args.bytes.now in
    let skips = c.args.skips.now in
    let start = c.args.start in
    let source = take_rest bytes start in
    let no_label = rw source at c.in-Err.ensures.no_label in
    let borrowed = rw source at c.in-Err.ensures.borrowed in
    inr (inl (
      c.no_label-in-Err.ensures,
      refl,
      (λ none. false≢true (no_label (λ label is. none label (
        label_of_returned skips bytes after stand ascii start c.args.is_in_table label
            (label_of_more _ (ReturnedAscii skips bytes)
            (λ rest skip x. ap (returned_ascii skips bytes) (sym x.shows) ∙ sym x.says.met) (drop start bytes) c.args.is_in_table
            label is.0),
        is.1,
      )))),
      (λ label is plain. false≢true (borrowed label (
        label_of_more (ReturnedAscii skips bytes) _
            (λ rest skip returned. record { shown = record c.args.bytes { now = rest }; shows = refl; says = record { met = sym returned } })
            (drop start bytes) c.args.is_in_table label
            (label_as_returned skips bytes after stand ascii start c.args.is_in_table label is.0),
        is.1,
      ) plain)),
    ))

pub scan_link_label_bytes-requires : goal.scan_link_label_bytes-requires
scan_link_label_bytes-requires c = record {
  callable = search (rules, of_calls);
  steady = record {
    one_answer = λ rest a b x y. x.says.met ∙ ap (returned_ascii c.args.skips.now c.args.bytes.now) (x.shows ∙ sym y.shows) ∙ sym y.says.met;
    inside = λ rest skip x. returned_front c.args.skips.now c.args.bytes.now rest skip
        (ap (returned_ascii c.args.skips.now c.args.bytes.now) (sym x.shows) ∙ sym x.says.met);
  };
}
