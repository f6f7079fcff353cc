use Rattle.std.proofs.Common.{◌≡◌, ◌-◌, ◌++◌, ◌∙◌, if◌then◌else◌, List, sym, ap, arith, length, drop, take}
use Rattle.std.proofs.lemmas.List.{length-drop, take_all}
use Rattle.markdown_inlines.specs.Emphasis.{emphasis_of}
use Rattle.markdown_inlines.specs.Readings.{reading_of}
use Rattle.markdown_inlines.specs.declared.emphasis.Delimiters.{Delimiters}
use Rattle.markdown_inlines.proofs.reading.ReadingLemmas.{with_link_is}
use Rattle.markdown_inlines.proofs.reading.Reader.end_link.Goals as goal
use Rattle.markdown_inlines.proofs.reading.Reader.end_link.Goals.{then-link, else-link}

pub returns : goal.returns
returns c = λ text.
    let old = c.args.self.now in
    let runs = old.runs.items in
    let after = c.args.opener.runs in
    let last : c.if-link.self ≡ (if c.args.link.is_image then old.last_link else c.args.link.source.start) =
    elim c.if-link.branch [
      | then-link w ↦ w.self-is ∙ ap (λ b. if b then old.last_link else c.args.link.source.start) (sym w.if-link.true)
      | else-link w ↦ w.self-is ∙ ap (λ b. if b then old.last_link else c.args.link.source.start) (sym w.if-link.false)
    ] in
    let found : c.push_emphasis.new.emphasis.items ≡ old.emphasis.items ++ emphasis_of (drop after runs) =
    c.in_ok-push_emphasis.ensures ∙ ap (λ (l : List Delimiters). old.emphasis.items ++ emphasis_of l)
    (ap (λ (l : List Delimiters). take (length l - after) (drop after l)) c.deref.ensures.value
    ∙ take_all (length runs - after) (drop after runs) (omega (arith, length-drop after runs))) in
    with_link_is c.args.link c.args.opener (reading_of text old) c.truncate.new.self.items c.if-link.self c.put.new.self
    c.push_emphasis.new.emphasis.items c.truncate.ensures.items last c.in_ok-put.ensures found
