use Rattle.std.proofs.Common.{ap, ◌∙◌}
use Rattle.markdown_events.specs.declared.page.levels.LastBlock.{LastBlock}
use Rattle.markdown_events.specs.page.Levels.{with_block}
use Rattle.markdown_events.proofs.page.LevelLemmas.{level_known}
use Rattle.markdown_events.proofs.page.levels.Level.with_container.Goals as goal

pub returns : goal.returns
returns c = λ inner later same same_later.
    let block : LastBlock = record { to = c.end_in.result; is_blank = c.is_followed.result } in
    c.with_block.ensures
    ∙ ap (with_block c.args.offset block c.goes_on-is_alike.result c.list_begun-list.result) c.end_at.ensures
    ∙ level_known c.args.container c.args.offset c.args.content c.args.self inner later same same_later
    c.is_followed.result (c.is_followed.ensures inner later same same_later) c.goes_on-is_alike.result c.goes_on-is_alike.ensures
    c.list_begun-list.result (c.list_begun-list.ensures c.args.offset inner later same same_later) c.end_in.result c.end_in.ensures
