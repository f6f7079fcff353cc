-- Which labels link reference definitions have, and what texts are read with.
use Rattle.std.specs.Option.{is_some}
use Rattle.markdown_blocks.specs.link_definitions.LinkDefinitions.{known_as}
use Rattle.markdown_blocks.specs.link_definitions.LinkDefinitions as definitions
use Rattle.markdown_inlines.specs.Inlines.{Setting}
use Rattle.markdown_inlines.specs.Links.{Known}
use Rattle.page_inlines.specs.declared.blocks.Page.{Page}

abbrev pub labels_of : definitions.Known → Known
labels_of defined label = is_some (known_as defined label)

-- with the extensions of the page, and the labels that it defines
abbrev pub setting_of : Page → Setting
setting_of page = record { asked = page.asked; known = labels_of page.labels.definitions }
