use Rattle.std.proofs.Common.{Some, sym, ap, ◌≡◌, ◌∙◌, subst}
use Rattle.std.specs.Prelude.{IfSome}
use Rattle.markdown_blocks.specs.containers.Containers.{either_begun, term_definition_of}
use Rattle.markdown_blocks.proofs.containers.scan_extension.Goals as goal

pub returns-clause-found : goal.returns-clause-found
returns-clause-found c =
    let asked = c.args.extensions in
    let begun = ap (λ f. either_begun f (term_definition_of asked c.args.indent c.args.start.now)) c.in_default.ensures.none
    ∙ ap (term_definition_of asked c.args.indent) (sym c.in_default.ensures.unchanged) in
    subst (λ x. IfSome c.scan_term_definition.result (λ container. x ≡ Some (container, c.scan_term_definition.new.start))) (sym begun)
    c.scan_term_definition.ensures.found
