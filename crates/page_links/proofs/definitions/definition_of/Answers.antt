use Rattle.std.proofs.Common.{sym, ◌∙◌}
use Rattle.page_links.proofs.definitions.definition_of.Goals as goal

pub returns-then-is_definition : goal.returns-then-is_definition
returns-then-is_definition c = rw (sym c.is_definition.ensures ∙ c.if-is_definition.true) c.definition_in.ensures
