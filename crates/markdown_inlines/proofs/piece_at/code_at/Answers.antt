use Rattle.std.proofs.Common.{ap, sym, ◌∙◌}
use Rattle.markdown_inlines.specs.Pieces.{BeginsAt}
use Rattle.markdown_inlines.proofs.pieces.Openings.{begins_class, byte_class, only_code}
use Rattle.markdown_inlines.proofs.piece_at.code_at.Goals as goal

pub returns-in-None-clause-found : goal.returns-in-None-clause-found
returns-in-None-clause-found c = λ asked from apart r begins.
    let text = c.args.searches.now.html.text in
    let none = rw c.in-None.is at c.in_ok-span.ensures.found in
    let same = sym (ap byte_class c.requires.opens) ∙ begins_class asked text from c.args.offset r.0 r.1 begins in
    only_code (λ kind. BeginsAt asked text from c.args.offset kind r.1 → ⊥) r.0 same
    (λ backticks is. none is.1.span is.1.is_span) begins
