-- Alerts in block quotes. (GitHub Docs, alerts)
use Rattle.std.specs.Prelude.{ℕ, ◌==◌, ◌≡◌, List, Option, None}
use Rattle.std.specs.List.{filter_map}
use Rattle.std.specs.Option.{option_map}
use Rattle.markdown_scanners_tree.specs.line.Outcome.{alert_line}
use Rattle.markdown_values.specs.declared.values.BlockQuoteKind.{BlockQuoteKind}
use Rattle.markdown_blocks.specs.declared.alerts.Alert.{Alert}
use Rattle.markdown_blocks.specs.declared.blocks.BlockKind.{BlockKind}
use Rattle.markdown_blocks.specs.declared.blocks.BlockKind.TheVariants.{Paragraph}
use Rattle.markdown_values.specs.declared.values.extensions.Extensions.{Extensions}
use Rattle.markdown_blocks.specs.declared.containers.Container.{Container}
use Rattle.markdown_blocks.specs.declared.containers.Container.TheVariants.{Quote}
use Rattle.markdown_blocks.specs.events.Events.{LeafBlock, IsEventsOf}
use Rattle.markdown_blocks.specs.first_blocks.FirstBlocks.{First, firsts_of}
use Rattle.markdown_blocks.specs.lists.Lists.{Nodes, flatten}

-- The alert whose line, of this kind and so many bytes, is the first of a block: how many bytes of the page stand before it, how
-- many bytes it has, and whether the block has no other line.
abbrev pub alert_with : LeafBlock → BlockQuoteKind × ℕ → Alert
alert_with block line = record { kind = line.0; offset = block.offset; len = line.1; is_alone = block.lines == 1 }

-- an alert is a block quote whose first block is a paragraph, and the first line of that is an alert's
abbrev pub alert_in : Container → BlockKind → LeafBlock → Option Alert
alert_in Quote Paragraph block = option_map (alert_with block) (alert_line block.text)
alert_in container kind block = None

abbrev pub alert_at : First → Option Alert
alert_at first = alert_in first.container first.block.kind first.block

-- the alerts of a page, in order
abbrev pub alerts_of : Nodes → List Alert
alerts_of nodes = filter_map alert_at (firsts_of nodes)

abbrev pub AreAlertsOf : Extensions → List ℕ → List Alert → Type 0
AreAlertsOf asked page alerts = (nodes : Nodes) × IsEventsOf asked page (flatten nodes) × (alerts ≡ alerts_of nodes)
