use Rattle.std.proofs.Common.{inl, sym, ◌∙◌}
use Rattle.markdown_blocks.proofs.definitions.GatherLemmas.{none_gathered, nothing_gathered, one_line_gathered}
use Rattle.markdown_blocks.proofs.definitions.gather_content.Goals as goal

pub returns-then-begins_with_text : goal.returns-then-begins_with_text
returns-then-begins_with_text c = λ line later t.
    none_gathered c.args.block.kind c.args.containers.now c.args.text.now later c.clear.new.self.items c.clear.ensures.items
    (c.begins_with_text.ensures.none c.if-begins_with_text.true)

pub returns-then-is_line_without_label : goal.returns-then-is_line_without_label
returns-then-is_line_without_label c = λ line later t.
    one_line_gathered c.args.block.kind c.args.containers.now c.args.text.now line later c.clear.new.self.items c.clear.ensures.items
    (sym (c.is_line_without_label.ensures.line c.if-is_line_without_label.true) ∙ t.counted)
    (c.is_line_without_label.ensures.none c.if-is_line_without_label.true)

pub returns-then-not-begins_with_definition : goal.returns-then-not-begins_with_definition
returns-then-not-begins_with_definition c = λ line later t.
    let content = c.deref.ensures.value ∙ (rw c.clear.ensures.items at (c.in_ok-add_content.ensures line later t)) in
    nothing_gathered c.args.block.kind c.args.containers.now c.args.text.now later c.deref.result.now
    c.clear-then-not-begins_with_definition.new.self.items c.clear-then-not-begins_with_definition.ensures.items content
    (c.begins_with_definition.ensures c.if-not-begins_with_definition.true)

pub returns-else-not-begins_with_definition : goal.returns-else-not-begins_with_definition
returns-else-not-begins_with_definition c = λ line later t. inl (rw c.clear.ensures.items at (c.in_ok-add_content.ensures line later t))
