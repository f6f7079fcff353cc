-- The two passes over bytes, of which the label's are UTF-8.
use Rattle.std.proofs.Common.{◌≡◌, ◌+◌, length, take, sym, ◌∙◌, ap, subst, refl, true≢false, arith}
use Rattle.std.specs.Str.{IsUtf8}
use Rattle.std.proofs.lemmas.List.{length-take}
use Rattle.markdown_scanners_tree.specs.linklabel.Label.{Label}
use Rattle.markdown_scanners_tree.proofs.linklabel.LabelRoom.{label_room}
use Rattle.markdown_scanners_tree.proofs.linklabel.ReadsBack.{label_reads_back}
use Rattle.markdown_scanners_tree.proofs.linklabel.SteadyLemmas.{steady_at_ascii_after, ends_in_front}
use Rattle.markdown_scanners_tree.proofs.linklabel.scan_link_label_bytes.Goals as goal

pub measure_label-requires-clause-steady : goal.measure_label-requires-clause-steady
measure_label-requires-clause-steady g c = steady_at_ascii_after g.F.Fn c.args.handler.now c.args.bytes.now c.requires.steady

pub returns-in_default-clause-found : goal.returns-in_default-clause-found
returns-in_default-clause-found g c = λ label is. c.in_default.ensures.none label is.0

pub returns-in_default-from_utf8-clause-found : goal.returns-in_default-from_utf8-clause-found
returns-in_default-from_utf8-clause-found g c = λ label is.
    (let m = c.in-Some.ensures.found in
    let len : label.len ≡ c.in-Some.measure.close + 1 = ap (λ (l : Label). l.len) (m.only label is.0) ∙ sym m.len_is in
    c.in_default-from_utf8.ensures.cases.0 (subst (λ n. IsUtf8 (take n c.args.bytes.now)) len is.1))

pub measured_label-requires-clause-steady : goal.measured_label-requires-clause-steady
measured_label-requires-clause-steady g c = steady_at_ascii_after g.F.Fn c.args.handler.now c.args.bytes.now c.requires.steady

pub measured_label-requires-clause-cuts : goal.measured_label-requires-clause-cuts
measured_label-requires-clause-cuts g c =
    let bytes = c.args.bytes.now in
    let taken = c.in-Some.measure.close + 1 in
    let read = c.in-Ok.ensures.cases in
    let size : length c.in-Ok.text.now ≡ taken =
    omega (arith, ap length read.0, length-take taken bytes, c.in-Some.ensures.found.inside) in
    ends_in_front g.F.Fn c.args.handler.now bytes c.in-Ok.text.now (subst IsUtf8 (sym read.0) read.1)
    (read.0 ∙ ap (λ n. take n bytes) (sym size)) c.requires.steady

pub returns-in_err-label-clause-borrowed : goal.returns-in_err-label-clause-borrowed
returns-in_err-label-clause-borrowed g c = λ label is plain.
    (let m = c.in-Some.ensures.found in
    absurd (true≢false (sym (c.in_err-label.ensures.memory
    (m.plain_is ∙ sym (ap (λ (l : Label). l.plain) (m.only label is.0)) ∙ plain)))))

pub returns-in_err-label-clause-no_label : goal.returns-in_err-label-clause-no_label
returns-in_err-label-clause-no_label g c = λ none.
    (let m = c.in-Some.ensures.found in
    absurd (none m.label
    (m.is_label, subst (λ n. IsUtf8 (take n c.args.bytes.now)) m.len_is c.in-Ok.ensures.cases.1)))

pub returns-clause-only : goal.returns-clause-only
returns-clause-only g c = λ other is.
    (let m = c.in-Some.ensures.found in
    m.only other is.0 ∙ sym (m.only _ c.in_ok-label.ensures.answered))

pub returns-clause-room : goal.returns-clause-room
returns-clause-room g c = label_room _ _ _ _ c.in_ok-label.ensures.answered

pub returns-clause-reads_back : goal.returns-clause-reads_back
returns-clause-reads_back g c = label_reads_back _ _ _ _ _ c.in_ok-label.ensures.answered refl
