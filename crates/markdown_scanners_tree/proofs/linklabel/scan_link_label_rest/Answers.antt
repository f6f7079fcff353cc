-- The two passes over a text.
use Rattle.std.proofs.Common.{◌+◌, sym, ◌∙◌, ap, subst, refl, true≢false, arith}
use Rattle.std.proofs.lemmas.Str.{IsCharBoundary-after_ascii}
use Rattle.markdown_scanners_tree.specs.Handler.{Skips}
use Rattle.markdown_scanners_tree.specs.linklabel.Answer.{answered_label}
use Rattle.markdown_scanners_tree.specs.linklabel.Label.{Label, IsLabel, HasNoLabel}
use Rattle.markdown_scanners_tree.specs.linklabel.private.Pass.{IsMeasure}
use Rattle.markdown_scanners_tree.specs.linklabel.private.Steady.{IsSteadyAfterLines, EndsAtChars}
use Rattle.markdown_scanners_tree.proofs.linklabel.ReadsBack.{label_reads_back}
use Rattle.markdown_scanners_tree.proofs.linklabel.SteadyLemmas.{steady_in_text, ends_in_text}
use Rattle.markdown_scanners_tree.proofs.linklabel.scan_link_label_rest.Goals as goal

pub measure_label-requires-clause-steady : goal.measure_label-requires-clause-steady
measure_label-requires-clause-steady g c =
    subst (IsSteadyAfterLines g.F.Fn c.args.handler.now) (sym c.as_bytes-bytes.ensures.value)
    (steady_in_text g.F.Fn c.args.handler.now c.args.text.now c.utf8.text c.requires.steady)

pub returns-in_default-clause-found : goal.returns-in_default-clause-found
returns-in_default-clause-found g c =
    subst (λ b. HasNoLabel (Skips g.F.Fn c.args.handler.now) b c.args.is_in_table) c.as_bytes-bytes.ensures.value
    c.in_default.ensures.none

pub measured_label-requires-clause-steady : goal.measured_label-requires-clause-steady
measured_label-requires-clause-steady g c =
    subst (IsSteadyAfterLines g.F.Fn c.args.handler.now) (sym c.as_bytes-bytes.ensures.value)
    (steady_in_text g.F.Fn c.args.handler.now c.args.text.now c.utf8.text c.requires.steady)

pub measured_label-requires-clause-cuts : goal.measured_label-requires-clause-cuts
measured_label-requires-clause-cuts g c =
    subst (λ b. EndsAtChars g.F.Fn c.args.handler.now b c.args.text.now) (sym c.as_bytes-bytes.ensures.value)
    (ends_in_text g.F.Fn c.args.handler.now c.args.text.now c.utf8.text c.requires.steady)

pub returns-in_err-label-clause-borrowed : goal.returns-in_err-label-clause-borrowed
returns-in_err-label-clause-borrowed g c = λ label is plain.
    (let m = subst (λ b. IsMeasure (Skips g.F.Fn c.args.handler.now) b c.args.is_in_table c.in-Some.measure)
    c.as_bytes-bytes.ensures.value c.in-Some.ensures.found in
    absurd (true≢false (sym (c.in_err-label.ensures.memory
    (m.plain_is ∙ sym (ap (λ (l : Label). l.plain) (m.only label is)) ∙ plain)))))

pub returns-in_err-label-clause-no_label : goal.returns-in_err-label-clause-no_label
returns-in_err-label-clause-no_label g c = λ none.
    (let m = subst (λ b. IsMeasure (Skips g.F.Fn c.args.handler.now) b c.args.is_in_table c.in-Some.measure)
    c.as_bytes-bytes.ensures.value c.in-Some.ensures.found in
    absurd (none m.label m.is_label))

pub returns-clause-only : goal.returns-clause-only
returns-clause-only g c = λ other is.
    (let m = subst (λ b. IsMeasure (Skips g.F.Fn c.args.handler.now) b c.args.is_in_table c.in-Some.measure)
    c.as_bytes-bytes.ensures.value c.in-Some.ensures.found in
    let label = answered_label (c.in-Some.measure.close + 1, c.in_ok-label.label) in
    let answered = subst (λ b. IsLabel (Skips g.F.Fn c.args.handler.now) b c.args.is_in_table label)
    c.as_bytes-bytes.ensures.value c.in_ok-label.ensures.answered in
    m.only other is ∙ sym (m.only label answered))

pub returns-clause-boundary : goal.returns-clause-boundary
returns-clause-boundary g c =
    let m = subst (λ b. IsMeasure (Skips g.F.Fn c.args.handler.now) b c.args.is_in_table c.in-Some.measure)
    c.as_bytes-bytes.ensures.value c.in-Some.ensures.found in
    IsCharBoundary-after_ascii c.args.text.now c.in-Some.measure.close c.utf8.text m.inside (rw m.closes (omega arith))

pub returns-clause-reads_back : goal.returns-clause-reads_back
returns-clause-reads_back g c = label_reads_back _ _ _ _ _ c.in_ok-label.ensures.answered refl
