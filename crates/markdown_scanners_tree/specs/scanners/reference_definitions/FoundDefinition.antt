-- What scans answer where they find a link reference definition. (CommonMark 0.31.2, section 4.7, link reference
-- definitions)
use Rattle.std.specs.Prelude.{ℕ, ◌<◌, ◌≤◌, List, length, IfSome}
use Rattle.std.specs.Str.{IsUtf8, IsCharBoundary}
use Rattle.markdown_scanners_tree.specs.declared.scanners.reference_definitions.ReferenceDefinition.{ReferenceDefinition}
use Rattle.markdown_scanners_tree.specs.scanners.reference_definitions.ReferenceDefinition.{IsCutAt}

-- The parts of a definition stand one after another in the bytes that it takes at the front of the text. A text may be
-- cut where each of them begins and ends, and after all that it takes.
pub record PartsStandIn (text : List ℕ) (d : ReferenceDefinition) : Type 0 where
  pub within : d.len ≤ length text
  pub label : (0 < d.label.start) × (d.label.start ≤ d.label.end) × (d.label.end < d.destination.start)
  pub destination : (d.destination.start ≤ d.destination.end) × (d.destination.end ≤ d.len)
  pub title : IfSome d.title (λ title.
      (d.destination.end < title.start) × (title.start ≤ title.end) × (title.end < d.len))
  pub label_cut : IsUtf8 text → IsCutAt text d.label
  pub destination_cut : IsUtf8 text → IsCutAt text d.destination
  pub title_cut : IfSome d.title (λ title. IsUtf8 text → IsCutAt text title)
  pub after : IsUtf8 text → IsCharBoundary text d.len
