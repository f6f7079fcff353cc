-- What is known of the inlines that are found in a text.
use Rattle.std.proofs.Common.{ℕ, List, [], ◌∷◌, ◌≡◌, ◌<◌, length, sym, subst, Option}
use Rattle.std.specs.List.{All, AllByRecursion}
use Rattle.std.specs.Str.{IsUtf8}
use Rattle.markdown_inlines.specs.Nesting.{Nest, StandFrom}
use Rattle.markdown_inlines.specs.Output.{AreInlines}
use Rattle.markdown_inlines.specs.Sources.{AreLinkSources}
use Rattle.markdown_values.specs.declared.values.extensions.Extensions.{Extensions}
use Rattle.markdown_inlines.specs.declared.inlines.Inline.{Inline}
use Rattle.markdown_inlines.specs.declared.links.Link.{Link}
use Rattle.markdown_events.proofs.found.FilledFacts.{inlines_filled}
use Rattle.markdown_events.proofs.found.InlineFacts.{inlines_found}
use Rattle.markdown_events.specs.EventLaws.{AreWithin}
use Rattle.markdown_events.specs.InlineEvents.{AreEvents, RangedEvent}
use Rattle.markdown_events.specs.Passes.{EndsBelow, IsFound}
use Rattle.markdown_events.specs.Targets.{Targets, leads}
use Rattle.markdown_events.proofs.inline_events.Facts.{IsFact, all_found, all_known, by_index, ends_below}
use Rattle.markdown_events.proofs.inline_events.Filled.{filled_rise}
use Rattle.markdown_events.proofs.inline_events.Rise.{all_rise}

module _ (text : List ℕ) (asked : Extensions) (targets : Targets) (inlines : List Inline) (links : List (Option Link))
    (utf8 : IsUtf8 text) (sources : AreLinkSources text links)
    (are : AreInlines text (record { asked = asked; known = leads targets }) inlines links) where
  facts : AllByRecursion (IsFact text targets links) inlines
  facts = all_known text targets links inlines (inlines_found text (record { asked = asked; known = leads targets }) inlines links utf8 sources are)

  -- each stands in the text
  pub text_found : (links' : List (Option Link)) (inlines' : List Inline) → links' ≡ links → inlines' ≡ inlines
      → All (IsFound text targets links') inlines'
  text_found links' inlines' same same' =
      subst (λ (l : List (Option Link)). All (IsFound text targets l) inlines') (sym same)
      (subst (λ (l : List Inline). All (IsFound text targets links) l) (sym same')
      (by_index (IsFound text targets links) inlines (all_found text targets links inlines facts)))

  -- and ends in it
  pub text_ends : (inlines' : List Inline) (limit : ℕ) → inlines' ≡ inlines → StandFrom links 0 inlines (length text) → length text < limit
      → All (EndsBelow limit) inlines'
  text_ends inlines' limit same stand less =
      subst (λ (l : List Inline). All (EndsBelow limit) l) (sym same)
      (by_index (EndsBelow limit) inlines (ends_below text targets links inlines 0 (length text) limit facts stand less))

  -- so do the events
  pub text_within : (events : List RangedEvent) → Nest links inlines → StandFrom links 0 inlines (length text)
      → AreEvents text targets links [] inlines events → AreWithin text events
  text_within events nested stand gives =
      filled_rise (length text ∷ []) 0 events
      (all_rise text targets links (length text) inlines events (inlines_filled text _ inlines links are) nested stand gives)
