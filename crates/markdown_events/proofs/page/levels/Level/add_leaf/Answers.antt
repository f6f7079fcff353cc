use Rattle.std.proofs.Common.{true, false, None, sym, ap, ◌∙◌}
use Rattle.markdown_blocks.specs.events.Events.{seen_leaf, block_end}
use Rattle.markdown_events.specs.declared.page.levels.Level.{Level}
use Rattle.markdown_events.specs.page.Levels.{level_of, ended_at, with_block}
use Rattle.markdown_events.proofs.page.LevelLemmas.{leaf_level, level_with_leaf}
use Rattle.markdown_events.proofs.page.levels.Level.add_leaf.Goals as goal

pub returns-then-is_blank : goal.returns-then-is_blank
returns-then-is_blank c = λ later same.
    let block = seen_leaf c.args.block in
    c.add_blank_line.ensures
    ∙ ap (λ (l : Level). record l { offset = block.offset; begins_blank = true; begins_blank_twice = l.begins_blank }) c.end_at.ensures
    ∙ ap (leaf_level true block) same
    ∙ ap (λ k. leaf_level k block (level_of later)) (sym c.if-is_blank.true ∙ c.is_blank.ensures)
    ∙ level_with_leaf block later

pub returns : goal.returns
returns c = λ later same.
    let block = seen_leaf c.args.block in
    c.add_block.ensures
    ∙ ap (λ (l : Level). with_block block.offset (record { to = block_end block; is_blank = l.begins_blank }) false None l) c.end_at.ensures
    ∙ ap (leaf_level false block) same
    ∙ ap (λ k. leaf_level k block (level_of later)) (sym c.if-is_blank.false ∙ c.is_blank.ensures)
    ∙ level_with_leaf block later
