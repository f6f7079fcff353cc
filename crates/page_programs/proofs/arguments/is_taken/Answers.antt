use Rattle.std.proofs.Common.{◌∙◌, ap, sym, ◌||◌}
use Rattle.page_programs.specs.Arguments.{is_named, texts}
use Rattle.page_programs.proofs.ArgumentLemmas.{named_in_either}
use Rattle.page_programs.proofs.arguments.is_taken.Goals as goal

pub returns-then-is_named : goal.returns-then-is_named
returns-then-is_named c =
    let extensions = texts c.args.options.extensions.now in
    c.if-is_named.true
    ∙ sym (named_in_either (texts c.args.options.own.now) extensions c.args.word.now
    ∙ ap (λ named. named || is_named extensions c.args.word.now) (sym c.is_named.ensures ∙ c.if-is_named.true))

pub returns-else-is_named : goal.returns-else-is_named
returns-else-is_named c =
    let extensions = texts c.args.options.extensions.now in
    c.is_named-else-is_named.ensures
    ∙ sym (named_in_either (texts c.args.options.own.now) extensions c.args.word.now
    ∙ ap (λ named. named || is_named extensions c.args.word.now) (sym c.is_named.ensures ∙ c.if-is_named.false))
