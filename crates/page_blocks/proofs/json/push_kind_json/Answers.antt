use Rattle.page_blocks.proofs.json.push_kind_json.Goals as goal

pub returns-in-Setext : goal.returns-in-Setext
returns-in-Setext c = rw (c.in-Setext.is, ← c.number-in-Setext.ensures.number) c.push_number-in-Setext.ensures

pub returns-in-Html : goal.returns-in-Html
returns-in-Html c = rw (c.in-Html.is, ← c.number-in-Html.ensures, ← c.from.ensures) c.push_number-in-Html.ensures
