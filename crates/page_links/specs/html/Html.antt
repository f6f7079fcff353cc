-- The raw HTML of a page, and its start tags. (CommonMark 0.31.2, sections 4.6 and 6.6)
use Rattle.std.specs.Prelude.{ℕ, ◌-◌, ◌≡◌, List, [], ◌∷◌, ◌++◌, length, replicate, Option, Some, None}
use Rattle.std.specs.List.{filter_map}
use Rattle.html_attributes.specs.StartTags.{AreStartTags, WrittenTag}
use Rattle.markdown_scanners_tree.specs.Ascii.{space}
use Rattle.markdown_values.specs.strings.Text.{cow_text}
use Rattle.markdown_values.specs.values.Events.{html, inline_html}
use Rattle.markdown_events.specs.InlineEvents.{RangedEvent}
use Rattle.markdown_values.specs.declared.values.extensions.Extensions.{Extensions}
use Rattle.markdown_events.specs.page.PageEvents.{ArePageEvents}
use Rattle.page_links.specs.declared.html.HtmlPart.{HtmlPart}

-- A part of the raw HTML of a page: how many bytes of the page stand before it, and its text.
pub record Part : Type 0 where
  pub start : ℕ
  pub text : List ℕ

abbrev pub seen_part : HtmlPart → Part
seen_part it = record { start = it.start; text = cow_text it.text }

-- a line of an HTML block, or a tag or its like in a text
abbrev pub part_of : RangedEvent → Option Part
part_of (html text, range) = Some (record { start = range.start; text = text })
part_of (inline_html text, range) = Some (record { start = range.start; text = text })
part_of event = None

-- with a part where it stands in the page: after spaces up to its offset
abbrev pub with_part : List ℕ → Part → List ℕ
with_part before it = before ++ (replicate (it.start - length before) space ++ it.text)

-- with parts
abbrev pub in_place : List ℕ → List Part → List ℕ
in_place before [] = before
in_place before (it ∷ later) = in_place (with_part before it) later

-- These are the parts of the raw HTML of a page.
pub record AreHtmlParts (page : List ℕ) (setting : Extensions) (parts : List Part) : Type 0 where
  pub events : List RangedEvent
  pub are_events : ArePageEvents page setting events
  pub are_parts : parts ≡ filter_map part_of events

-- This is the raw HTML of a page, with spaces for all else.
abbrev pub IsHtmlOf : List ℕ → Extensions → List ℕ → Type 0
IsHtmlOf page setting text = (parts : List Part) × AreHtmlParts page setting parts × (text ≡ in_place [] parts)

-- These are the start tags of the raw HTML of a page.
pub record AreTagsOf (page : List ℕ) (setting : Extensions) (tags : List WrittenTag) : Type 0 where
  pub html : List ℕ
  pub is_html : IsHtmlOf page setting html
  pub are_tags : AreStartTags html tags
