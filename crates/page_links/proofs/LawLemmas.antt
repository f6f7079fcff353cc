-- Links are where the events are that start them, and in order.
use Rattle.std.proofs.Common.{ℕ, true, false, ◌≡◌, ◌≤◌, List, [], ◌∷◌, Some, None, length, map, refl, sym, ap, ◌∙◌, subst, arith}
use Rattle.std.specs.Prelude.{⊤, filter}
use Rattle.std.specs.List.{cons_option, filter_map}
use Rattle.std.specs.declared.ops.Range.{Range}
use Rattle.markdown_values.specs.values.Events.{start, end, text, code, inline_math, display_math, html, inline_html}
use Rattle.markdown_values.specs.values.Events.{footnote_reference, soft_break, hard_break, rule, task_list_marker}
use Rattle.markdown_values.specs.values.Tags.{TagView, paragraph, heading, block_quote, code_block, html_block, list, item, footnote_definition}
use Rattle.markdown_values.specs.values.Tags.{definition_list, definition_list_title, definition_list_definition, table, table_head, table_row}
use Rattle.markdown_values.specs.values.Tags.{table_cell, emphasis, strong, strikethrough, superscript, subscript, link, image, metadata_block}
use Rattle.markdown_events.specs.EventLaws.{LiesIn, RiseIn}
use Rattle.markdown_events.specs.InlineEvents.{RangedEvent}
use Rattle.markdown_values.specs.declared.values.extensions.Extensions.{Extensions}
use Rattle.markdown_events.proofs.ForCallers.{page_events_within}
use Rattle.page_links.specs.links.Laws.{AreStarted, RiseFrom, starts_link}
use Rattle.page_links.specs.links.Links.{AreLinksOf, Seen, link_of}

-- an event starts a link that is where it is, or it starts none
data IsKnown (event : RangedEvent) : Type 0 where
  one : (it : Seen) → starts_link event ≡ true → link_of event ≡ Some it → it.range ≡ event.1 → IsKnown event
  none : starts_link event ≡ false → link_of event ≡ None → IsKnown event

of_tag : (tag : TagView (List ℕ)) (range : Range ℕ) → IsKnown (start tag, range)
of_tag (link kind destination title label) range =
    one (record { range = range; is_image = false; link_type = kind; destination = destination; title = title; label = label }) refl refl refl
of_tag (image kind destination title label) range =
    one (record { range = range; is_image = true; link_type = kind; destination = destination; title = title; label = label }) refl refl refl
of_tag paragraph range = none refl refl
of_tag (heading level id classes attributes) range = none refl refl
of_tag (block_quote kind) range = none refl refl
of_tag (code_block info) range = none refl refl
of_tag html_block range = none refl refl
of_tag (list None) range = none refl refl
of_tag (list (Some number)) range = none refl refl
of_tag item range = none refl refl
of_tag (footnote_definition label) range = none refl refl
of_tag definition_list range = none refl refl
of_tag definition_list_title range = none refl refl
of_tag definition_list_definition range = none refl refl
of_tag (table alignments) range = none refl refl
of_tag table_head range = none refl refl
of_tag table_row range = none refl refl
of_tag table_cell range = none refl refl
of_tag emphasis range = none refl refl
of_tag strong range = none refl refl
of_tag strikethrough range = none refl refl
of_tag superscript range = none refl refl
of_tag subscript range = none refl refl
of_tag (metadata_block kind) range = none refl refl

known : (event : RangedEvent) → IsKnown event
known (start tag, range) = of_tag tag range
known (end closer, range) = none refl refl
known (text words, range) = none refl refl
known (code words, range) = none refl refl
known (inline_math words, range) = none refl refl
known (display_math words, range) = none refl refl
known (html words, range) = none refl refl
known (inline_html words, range) = none refl refl
known (footnote_reference label, range) = none refl refl
known (soft_break, range) = none refl refl
known (hard_break, range) = none refl refl
known (rule, range) = none refl refl
known (task_list_marker is_checked, range) = none refl refl

-- ---- where they are

abbrev ranges : List Seen → List (Range ℕ)
ranges links = map (λ it. it.range) links

abbrev positions : List RangedEvent → List (Range ℕ)
positions events = map (λ event. event.1) events

pub links_at_starts : (events : List RangedEvent) → ranges (filter_map link_of events) ≡ positions (filter starts_link events)
links_at_starts [] = refl
links_at_starts (event ∷ later) = elim (known event) [
  | one it is_one is_link there ↦
      rw (is_one, is_link) (ap (λ range. range ∷ ranges (filter_map link_of later)) there ∙ ap (λ rest. event.1 ∷ rest) (links_at_starts later))
  | none is_none no_link ↦ rw (is_none, no_link) (links_at_starts later)
]

-- ---- in order

-- the same from an earlier offset on
from_before : (from next size : ℕ) (links : List Seen) → from ≤ next → RiseFrom next size links → RiseFrom from size links
from_before from next size [] low rise = tt
from_before from next size (it ∷ later) low rise =
    (record { begins = omega (arith, low, rise.0.begins); in_order = rise.0.in_order; ends = rise.0.ends }, rise.1)

-- the link that an event starts, if it starts one, before those that rise from it on
with_started : (from to size : ℕ) (event : RangedEvent) (links : List Seen) → to ≤ size → LiesIn from to event.1
    → RiseFrom event.1.start size links → RiseFrom from size (cons_option (link_of event) links)
with_started from to size event links within lies rise = elim (known event) [
  | one it is_one is_link there ↦
      rw (is_link, there) (record { begins = lies.begins; in_order = lies.in_order; ends = omega (arith, lies.ends, within) }, rise)
  | none is_none no_link ↦ rw no_link (from_before from event.1.start size links lies.begins rise)
]

-- those that rise from the end of an event on
passed : (from to size : ℕ) (range : Range ℕ) (links : List Seen) → LiesIn from to range → RiseFrom range.end size links → RiseFrom from size links
passed from to size range links lies rise = from_before from range.end size links (omega (arith, lies.begins, lies.in_order)) rise

-- positions that are within the page
abbrev AllUpTo : ℕ → List ℕ → Type 0
AllUpTo size [] = ⊤
AllUpTo size (last ∷ outer) = (last ≤ size) × AllUpTo size outer

pub links_rise : (size : ℕ) (ends : List ℕ) (from : ℕ) (events : List RangedEvent) → AllUpTo size ends → RiseIn ends from events
    → RiseFrom from size (filter_map link_of events)
links_rise size ends from [] within rise = tt
links_rise size [] from (event ∷ later) within rise = absurd rise
links_rise size (to ∷ outer) from ((start tag, range) ∷ later) within rise =
    with_started from to size (start tag, range) (filter_map link_of later) within.0 rise.0
    (links_rise size (range.end ∷ to ∷ outer) range.start later (omega (arith, rise.0.ends, within.0), within) rise.1)
links_rise size (to ∷ outer) from ((end closer, range) ∷ later) within rise =
    from_before from to size _ rise.0 (links_rise size outer to later within.1 rise.2)
links_rise size (to ∷ outer) from ((text words, range) ∷ later) within rise =
    passed from to size range _ rise.0 (links_rise size (to ∷ outer) range.end later within rise.1)
links_rise size (to ∷ outer) from ((code words, range) ∷ later) within rise =
    passed from to size range _ rise.0 (links_rise size (to ∷ outer) range.end later within rise.1)
links_rise size (to ∷ outer) from ((inline_math words, range) ∷ later) within rise =
    passed from to size range _ rise.0 (links_rise size (to ∷ outer) range.end later within rise.1)
links_rise size (to ∷ outer) from ((display_math words, range) ∷ later) within rise =
    passed from to size range _ rise.0 (links_rise size (to ∷ outer) range.end later within rise.1)
links_rise size (to ∷ outer) from ((html words, range) ∷ later) within rise =
    passed from to size range _ rise.0 (links_rise size (to ∷ outer) range.end later within rise.1)
links_rise size (to ∷ outer) from ((inline_html words, range) ∷ later) within rise =
    passed from to size range _ rise.0 (links_rise size (to ∷ outer) range.end later within rise.1)
links_rise size (to ∷ outer) from ((footnote_reference label, range) ∷ later) within rise =
    passed from to size range _ rise.0 (links_rise size (to ∷ outer) range.end later within rise.1)
links_rise size (to ∷ outer) from ((soft_break, range) ∷ later) within rise =
    passed from to size range _ rise.0 (links_rise size (to ∷ outer) range.end later within rise.1)
links_rise size (to ∷ outer) from ((hard_break, range) ∷ later) within rise =
    passed from to size range _ rise.0 (links_rise size (to ∷ outer) range.end later within rise.1)
links_rise size (to ∷ outer) from ((rule, range) ∷ later) within rise =
    passed from to size range _ rise.0 (links_rise size (to ∷ outer) range.end later within rise.1)
links_rise size (to ∷ outer) from ((task_list_marker is_checked, range) ∷ later) within rise =
    passed from to size range _ rise.0 (links_rise size (to ∷ outer) range.end later within rise.1)

-- ---- of a page

pub page_links_rise : (page : List ℕ) (setting : Extensions) (links : List Seen) → AreLinksOf page setting links → RiseFrom 0 (length page) links
page_links_rise page setting links are =
    subst (RiseFrom 0 (length page)) (sym are.are_links)
    (links_rise (length page) (length page ∷ []) 0 are.events (omega arith, tt) (page_events_within page setting are.events are.are_events))

pub page_links_at_starts : (page : List ℕ) (setting : Extensions) (links : List Seen) → AreLinksOf page setting links → AreStarted page setting links
page_links_at_starts page setting links are = record {
  events = are.events;
  are_events = are.are_events;
  at_starts = ap ranges are.are_links ∙ links_at_starts are.events;
}
