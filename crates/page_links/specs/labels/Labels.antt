-- What is reported of the labels of a page.
use Rattle.std.specs.Prelude.{ℕ, Bool, true, false, ◌&&◌, ◌||◌, not, ◌==◌, ◌≡◌, List, [], ◌∷◌, ◌++◌, Some, None, codes, map, nat_eq, if◌then◌else◌}
use Rattle.std.specs.Cmp.Lexicographic.{pointwise}
use Rattle.std.specs.List.{filter_map, flat_map, list_any}
use Rattle.std.specs.Str.{bytes_eq}
use Rattle.markdown_values.specs.declared.values.LinkType.{LinkType}
use Rattle.markdown_values.specs.declared.values.LinkType.TheVariants as Kind
use Rattle.markdown_scanners_tree.specs.Bytes.{begins_with}
use Rattle.markdown_scanners_tree.specs.linklabel.Key.{label_key}
use Rattle.markdown_events.specs.Targets.{Targets}
use Rattle.markdown_events.specs.InlineEvents.{RangedEvent}
use Rattle.markdown_values.specs.declared.values.extensions.Extensions.{Extensions}
use Rattle.markdown_events.specs.page.PageEvents.{ArePageEventsWith}
use Rattle.page_links.specs.declared.reports.Finding.TheVariants.{NotDefined, NotUsed, DefinedBefore}
use Rattle.page_links.specs.definitions.Definitions.{AreDefinitionsIn, Defined}
use Rattle.page_links.specs.links.Links.{Seen, link_of}
use Rattle.page_links.specs.reports.Reports.{Reported}

-- ---- labels

-- Two labels match where their case foldings are equal. (CommonMark 0.31.2, section 6.3)
abbrev pub matches : List ℕ → List ℕ → Bool
matches one other = pointwise nat_eq (label_key one) (label_key other)

-- one of these labels matches
abbrev pub is_among : List (List ℕ) → List ℕ → Bool
is_among labels label = list_any (λ one. matches one label) labels

abbrev pub labels_of : List Seen → List (List ℕ)
labels_of links = map (λ it. it.label) links

abbrev pub labels_defined : List Defined → List (List ℕ)
labels_defined defined = map (λ it. it.label) defined

-- On GitHub a label that begins with `^` is that of a footnote, which is no link. (GitHub Docs, "Footnotes")
abbrev pub is_footnote : List ℕ → Bool
is_footnote label = begins_with (λ b. b == 94) label

-- by custom a definition of `//` is a comment
abbrev pub is_comment : List ℕ → Bool
is_comment label = bytes_eq label (codes "//")

-- ---- labels that are used and not defined

-- a label stands in brackets of its own after the text, or an empty pair follows it: a label alone is ordinary text in most pages
abbrev pub is_full_or_collapsed : LinkType → Bool
is_full_or_collapsed Kind.Reference = true
is_full_or_collapsed Kind.Collapsed = true
is_full_or_collapsed kind = false

-- every label leads somewhere, where the page does not define it
abbrev pub everywhere : Targets
everywhere label = Some (record { destination = []; title = None })

-- The links that a page would have if every label were defined.
pub record AreLinksIfDefined (page : List ℕ) (setting : Extensions) (links : List Seen) : Type 0 where
  pub events : List RangedEvent
  pub are_events : ArePageEventsWith page setting everywhere events
  pub are_links : links ≡ filter_map link_of events

-- such a link is one only where a definition has its label
abbrev pub needs_definition : Seen → Bool
needs_definition it = is_full_or_collapsed it.link_type && not (is_footnote it.label)

-- what is reported of such a link, where the page defines these labels
abbrev pub not_defined : List (List ℕ) → Seen → List Reported
not_defined labels it =
    if needs_definition it && not (is_among labels it.label)
    then record { offset = it.range.start; finding = NotDefined; text = it.label } ∷ [] else []

-- ---- labels that are defined twice, or not used

-- a definition of this label defines no link
abbrev pub is_apart : List ℕ → Bool
is_apart label = is_comment label || is_footnote label

-- what is reported of a definition, where links use these labels and these are defined before it: of each label the first one counts (4.7)
abbrev pub of_definition : List (List ℕ) → List (List ℕ) → Defined → List Reported
of_definition used before it =
    if is_apart it.label then []
    else if is_among before it.label then record { offset = it.offset; finding = DefinedBefore; text = it.label } ∷ []
    else if is_among used it.label then []
    else record { offset = it.offset; finding = NotUsed; text = it.label } ∷ []

-- the same of each, after definitions of these labels
abbrev pub of_definitions : List (List ℕ) → List (List ℕ) → List Defined → List Reported
of_definitions used before [] = []
of_definitions used before (it ∷ later) =
    of_definition used before it ++ of_definitions used (before ++ it.label ∷ []) later

-- ---- a page

-- What is reported of the labels of a page that has these links.
pub record AreLabelReports (page : List ℕ) (setting : Extensions) (links : List Seen) (reports : List Reported) : Type 0 where
  pub defined : List Defined
  pub are_defined : AreDefinitionsIn page setting defined
  pub asked : List Seen
  pub are_asked : AreLinksIfDefined page setting asked
  pub are_reports : reports ≡ flat_map (not_defined (labels_defined defined)) asked ++ of_definitions (labels_of links) [] defined
