use Rattle.std.proofs.Common.{◌≡◌, ◌∙◌, List, true, false, sym, subst}
use Rattle.markdown_inlines.specs.Inlines.{IsClosed, Reading}
use Rattle.markdown_inlines.specs.Marks.{ends_link}
use Rattle.markdown_inlines.specs.Readings.{IsKept, reading_of}
use Rattle.markdown_inlines.specs.declared.reading.Opener.{Opener}
use Rattle.markdown_inlines.proofs.cut.WrittenLemmas.{ends_with}
use Rattle.markdown_inlines.proofs.reading.ReadingLemmas.{ended_kept, ends_a_link, ends_no_link, kept_with, none_kept}
use Rattle.markdown_inlines.proofs.reading.Reader.close.Goals as goal

pub returns-in_default-clause-closed : goal.returns-in_default-clause-closed
returns-in_default-clause-closed g c =
    let text = c.args.text.now in
    let none = (rw c.in_default.is at c.pop.ensures.none) text in
    subst (λ (o : List Opener). IsClosed (g.L.Labels.known c.args.labels.now) o (reading_of text c.args.self.now) c.args.bracket.start
    c.args.bracket.end (reading_of text c.pop.new.self)) (sym none.0) (c.requires.bracket, none.1)

pub returns-in_default-clause-kept : goal.returns-in_default-clause-kept
returns-in_default-clause-kept g c =
    let none = (rw c.in_default.is at c.pop.ensures.none) c.args.text.now in
    subst IsKept (sym none.1) c.requires.kept

pub returns-then-not-may_begin-clause-closed : goal.returns-then-not-may_begin-clause-closed
returns-then-not-may_begin-clause-closed g c =
    let some = (rw c.in-Some.is at c.pop.ensures.some) c.args.text.now in
    ends_no_link (g.L.Labels.known c.args.labels.now) _ _ c.in-Some.opener c.args.bracket some c.requires.kept c.requires.bracket
    (λ may link is. (let bad : true ≡ false = sym may ∙ (sym (c.may_begin.ensures c.args.text.now) ∙ c.if-not-may_begin.true) in cc))

pub returns-then-not-may_begin-clause-kept : goal.returns-then-not-may_begin-clause-kept
returns-then-not-may_begin-clause-kept g c =
    let some = (rw c.in-Some.is at c.pop.ensures.some) c.args.text.now in
    none_kept (g.L.Labels.known c.args.labels.now) _ _ c.in-Some.opener c.args.bracket some c.requires.kept

pub opener_target-requires-clause-source : goal.opener_target-requires-clause-source
opener_target-requires-clause-source g c =
    let some = (rw c.in-Some.is at c.pop.ensures.some) c.args.text.now in
    (kept_with (g.L.Labels.known c.args.labels.now) _ _ c.in-Some.opener c.args.bracket some c.requires.kept).openers.2

pub end_link-requires-clause-few : goal.end_link-requires-clause-few
end_link-requires-clause-few g c =
    let some = (rw c.in-Some.is at c.pop.ensures.some) c.args.text.now in
    (kept_with (g.L.Labels.known c.args.labels.now) _ _ c.in-Some.opener c.args.bracket some c.requires.kept).openers.0

pub end_link-requires-clause-known : goal.end_link-requires-clause-known
end_link-requires-clause-known g c =
    let some = (rw c.in-Some.is at c.pop.ensures.some) c.args.text.now in
    (kept_with (g.L.Labels.known c.args.labels.now) _ _ c.in-Some.opener c.args.bracket some c.requires.kept).openers.1

pub end_link-requires-clause-delimiters : goal.end_link-requires-clause-delimiters
end_link-requires-clause-delimiters g c =
    let some = (rw c.in-Some.is at c.pop.ensures.some) c.args.text.now in
    (kept_with (g.L.Labels.known c.args.labels.now) _ _ c.in-Some.opener c.args.bracket some c.requires.kept).runs

pub returns-in-None-clause-closed : goal.returns-in-None-clause-closed
returns-in-None-clause-closed g c =
    let some = (rw c.in-Some.is at c.pop.ensures.some) c.args.text.now in
    let none = rw c.in-None.is at c.in_ok-opener_target.ensures.found in
    ends_no_link (g.L.Labels.known c.args.labels.now) _ _ c.in-Some.opener c.args.bracket some c.requires.kept c.requires.bracket
    (λ may link is. none (link.target, link.source.end) is.target)

pub returns-in-None-clause-kept : goal.returns-in-None-clause-kept
returns-in-None-clause-kept g c =
    let some = (rw c.in-Some.is at c.pop.ensures.some) c.args.text.now in
    none_kept (g.L.Labels.known c.args.labels.now) _ _ c.in-Some.opener c.args.bracket some c.requires.kept

pub returns-in_ok-end_link-in-Some-2-clause-closed : goal.returns-in_ok-end_link-in-Some-2-clause-closed
returns-in_ok-end_link-in-Some-2-clause-closed g c =
    let some = (rw c.in-Some.is at c.pop.ensures.some) c.args.text.now in
    let leads = rw c.in-Some-2.is at c.in_ok-opener_target.ensures.found in
    ends_a_link (g.L.Labels.known c.args.labels.now) _ _ c.in-Some.opener c.args.bracket some c.requires.kept _ c.in-Some-2.target
    c.in-Some-2.end (sym (c.may_begin.ensures c.args.text.now) ∙ c.if-not-may_begin.false) leads
    (c.in_ok-end_link-in-Some-2.ensures c.args.text.now)

pub returns-in_ok-end_link-in-Some-2-clause-kept : goal.returns-in_ok-end_link-in-Some-2-clause-kept
returns-in_ok-end_link-in-Some-2-clause-kept g c =
    let some = (rw c.in-Some.is at c.pop.ensures.some) c.args.text.now in
    let within = rw c.in-Some-2.is at c.in_ok-opener_target.ensures.within in
    let boundary = rw c.in-Some-2.is at c.in_ok-opener_target.ensures.boundary in
    let source = rw c.in-Some-2.is at c.in_ok-opener_target.ensures.source in
    ended_kept (g.L.Labels.known c.args.labels.now) _ _ c.in-Some.opener c.args.bracket some c.requires.kept _ c.in-Some-2.target
    c.in-Some-2.end c.requires.before c.requires.source boundary within.0 source (c.in_ok-end_link-in-Some-2.ensures c.args.text.now)

pub returns-in_default-clause-ends : goal.returns-in_default-clause-ends
returns-in_default-clause-ends g c =
    let none = (rw c.in_default.is at c.pop.ensures.none) c.args.text.now in
    subst (λ (r : Reading). ends_link r.links c.args.bracket.start ≡ false) (sym none.1) c.requires.new

pub returns-then-not-may_begin-clause-ends : goal.returns-then-not-may_begin-clause-ends
returns-then-not-may_begin-clause-ends g c =
    let some = (rw c.in-Some.is at c.pop.ensures.some) c.args.text.now in
    subst (λ (r : Reading). ends_link r.links c.args.bracket.start ≡ false) some c.requires.new

pub returns-in-None-clause-ends : goal.returns-in-None-clause-ends
returns-in-None-clause-ends g c =
    let some = (rw c.in-Some.is at c.pop.ensures.some) c.args.text.now in
    subst (λ (r : Reading). ends_link r.links c.args.bracket.start ≡ false) some c.requires.new

pub returns-in_ok-end_link-in-Some-2-clause-ends : goal.returns-in_ok-end_link-in-Some-2-clause-ends
returns-in_ok-end_link-in-Some-2-clause-ends g c =
    let some = (rw c.in-Some.is at c.pop.ensures.some) c.args.text.now in
    ends_with _ _ _ c.in-Some.opener _ some c.requires.kept c.requires.free (c.in_ok-end_link-in-Some-2.ensures c.args.text.now)
