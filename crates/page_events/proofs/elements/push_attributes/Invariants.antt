-- What is written and the attributes that are left make all of them.
use Rattle.std.proofs.Common.{◌≡◌, ◌++◌, drop, map, string_bytes}
use Rattle.std.specs.List.{flat_map}
use Rattle.markdown_values.specs.strings.Text.{cow_text}
use Rattle.markdown_values.specs.values.Tags.{attribute_view}
use Rattle.page_events.specs.Lines.{attribute_text}
use Rattle.page_events.proofs.elements.push_attributes.Given as goal

abbrev pub invariant-loop-attribute : goal.invariant-loop-attribute
invariant-loop-attribute l =
    string_bytes l.text ++ flat_map attribute_text (map (attribute_view cow_text) (drop l.attribute-index l.attributes))
    ≡ string_bytes l.fn.text ++ flat_map attribute_text (map (attribute_view cow_text) l.attributes)
