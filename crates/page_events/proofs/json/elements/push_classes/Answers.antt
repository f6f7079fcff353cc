use Rattle.std.proofs.Common.{codes}
use Rattle.markdown_values.specs.strings.Text.{cow_text}
use Rattle.page_events.specs.Json.{text_json}
use Rattle.page_events.proofs.JsonLemmas.{array_of_seen}
use Rattle.page_events.proofs.json.elements.push_classes.Goals as goal

pub returns : goal.returns
returns c = rw (array_of_seen (codes "classes") text_json cow_text c.args.classes.now) c.push_array.ensures
