-- Where the labels of link reference definitions lead. (CommonMark 0.31.2, section 4.7)
use Rattle.std.specs.Prelude.{ℕ, List, Option, Some, None}
use Rattle.std.specs.Option.{is_some, option_map}
use Rattle.markdown_values.specs.strings.Text.{cow_text}
use Rattle.markdown_blocks.specs.link_definitions.LinkDefinitions.{Target}
use Rattle.markdown_inlines.specs.Links.{Known}
use Rattle.markdown_events.specs.declared.definitions.Target.{Target as Lent}

-- where each label leads that is defined
abbrev pub Targets : Type 0
Targets = List ℕ → Option Target

-- the label leads somewhere
abbrev pub leads : Targets → Known
leads targets label = is_some (targets label)

-- what a definition's texts are
abbrev pub seen_target : Lent → Target
seen_target lent = record { destination = cow_text lent.destination; title = option_map cow_text lent.title }

-- no label leads anywhere
abbrev pub nowhere : Targets
nowhere label = None

-- where a label leads by the first of two, or if it leads nowhere by that, by the second
abbrev pub or_else : Targets → Targets → Targets
or_else first second label = elim (first label) [ Some target ↦ Some target | None ↦ second label ]
