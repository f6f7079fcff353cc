use Rattle.std.proofs.Common.{◌∙◌, sym}
use Rattle.markdown_inlines.proofs.cut.WrittenLemmas.{no_starts_of_none}
use Rattle.markdown_inlines.proofs.inlines.put_starts.Goals as goal

pub returns-then-is_empty : goal.returns-then-is_empty
returns-then-is_empty c =
    no_starts_of_none c.args.links.now c.args.inlines.now (sym c.is_empty.ensures ∙ c.if-is_empty.true)
