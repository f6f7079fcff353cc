use Rattle.markdown_events.proofs.page.LevelLemmas.{content_known}
use Rattle.markdown_events.proofs.page.levels.Level.content.Goals as goal

pub returns : goal.returns
returns c = λ nodes same.
    content_known c.args.self nodes same c.unwrap_or-last.result c.unwrap_or-last.ensures c.is_parted.result (c.is_parted.ensures nodes same)
