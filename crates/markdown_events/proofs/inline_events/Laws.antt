-- What holds of the events of a text.
use Rattle.std.proofs.Common.{ℕ, List, [], ◌∷◌, length, refl}
use Rattle.markdown_inlines.proofs.ForCallers.{inlines_nest, inlines_stand}
use Rattle.markdown_events.specs.EventLaws.{AreBalanced}
use Rattle.markdown_events.specs.InlineEvents.{AreInlineEvents, EventSetting, RangedEvent}
use Rattle.markdown_events.proofs.found.FilledFacts.{inlines_filled}
use Rattle.markdown_events.proofs.inline_events.Balance.{balanced}
use Rattle.markdown_events.proofs.inline_events.Filled.{RiseFilled}
use Rattle.markdown_events.proofs.inline_events.Rise.{all_rise}

-- starts and ends balance
pub events_balance : (source : List ℕ) (setting : EventSetting) (events : List RangedEvent) → AreInlineEvents source setting events
    → AreBalanced events
events_balance source setting events are =
    balanced source setting.targets are.links are.inlines [] [] [] events (inlines_nest source _ are.inlines are.links are.are_inlines) refl tt are.are_events

-- ranges rise, and no element is empty
pub events_filled : (source : List ℕ) (setting : EventSetting) (events : List RangedEvent) → AreInlineEvents source setting events
    → RiseFilled (length source ∷ []) 0 events
events_filled source setting events are =
    all_rise source setting.targets are.links (length source) are.inlines events (inlines_filled source _ are.inlines are.links are.are_inlines)
    (inlines_nest source _ are.inlines are.links are.are_inlines) (inlines_stand source _ are.inlines are.links are.are_inlines) are.are_events
