-- What is written and the classes that are left make all of them.
use Rattle.std.proofs.Common.{◌≡◌, ◌++◌, drop, map, string_bytes}
use Rattle.std.specs.List.{flat_map}
use Rattle.markdown_values.specs.strings.Text.{cow_text}
use Rattle.page_events.specs.Lines.{class_text}
use Rattle.page_events.proofs.elements.push_classes.Given as goal

abbrev pub invariant-loop-class : goal.invariant-loop-class
invariant-loop-class l =
    string_bytes l.text ++ flat_map class_text (map cow_text (drop l.class-index l.classes))
    ≡ string_bytes l.fn.text ++ flat_map class_text (map cow_text l.classes)
