use Rattle.std.proofs.Common.{◌∙◌}
use Rattle.markdown_blocks.proofs.definitions.DefinitionLemmas.{all_given, later_lines}
use Rattle.markdown_blocks.proofs.definitions.has_text.Goals as goal

pub returns : goal.returns
returns c = λ line later h all.
    let items = rw (c.new-content.ensures.items, later_lines c.args.text.now line later c.args.first c.args.taken h all)
    at (c.in_ok-add_lines.ensures line h) in
    all_given c.add_lines.new.content.items _ c.definitions_len.result c.len.result items
    (rw c.deref.ensures.value at c.definitions_len.ensures.definitions) (rw c.deref.ensures.value at c.definitions_len.ensures.within)
    (c.len.ensures ∙ c.add_lines.new.content.ok.0)
