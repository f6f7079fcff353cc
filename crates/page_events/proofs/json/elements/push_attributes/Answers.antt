use Rattle.std.proofs.Common.{codes}
use Rattle.markdown_values.specs.strings.Text.{cow_text}
use Rattle.markdown_values.specs.values.Tags.{attribute_view}
use Rattle.page_events.specs.Json.{attribute_json}
use Rattle.page_events.proofs.JsonLemmas.{array_of_seen}
use Rattle.page_events.proofs.json.elements.push_attributes.Goals as goal

pub returns : goal.returns
returns c = rw (array_of_seen (codes "attributes") attribute_json (attribute_view cow_text) c.args.attributes.now) c.push_array.ensures
