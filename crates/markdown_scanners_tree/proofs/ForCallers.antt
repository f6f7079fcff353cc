-- Lemmas that other crates cite.
pub use Rattle.markdown_scanners_tree.proofs.HandlerLemmas.{cut_after_ascii, cut_after_front, front_found, steady_at_ascii, ascii_fronts}
pub use Rattle.markdown_scanners_tree.proofs.HandlerLemmas.{callable_after_line_endings}
pub use Rattle.markdown_scanners_tree.proofs.LabelHandlers.{label_of_more}
pub use Rattle.markdown_scanners_tree.proofs.PrefixLemmas.{prefix_alike}
pub use Rattle.markdown_scanners_tree.proofs.byte_sets.SetLanes.{is_outside}
pub use Rattle.markdown_scanners_tree.proofs.inline_html.TrueGuards.{opener-bounds, opener-there, IsTrueGuard-later}
pub use Rattle.markdown_scanners_tree.proofs.inline_html.run.GuardsStay.{accepted}
pub use Rattle.markdown_scanners_tree.proofs.inline_html.run.KeptGuard.{first-true, next_scan}
pub use Rattle.markdown_scanners_tree.proofs.inline_html.run.Sums.{passed-counted}
pub use Rattle.markdown_scanners_tree.proofs.line.ItemIndents.{same_items}
pub use Rattle.markdown_scanners_tree.proofs.line.ItemRules.{items_agree, item_alone, no_item_alone, items_begun, same_answers}
pub use Rattle.markdown_scanners_tree.proofs.line.PlaceLemmas.{space_forward, all_space_forward, quote_forward, definition_forward, task_forward}
pub use Rattle.markdown_scanners_tree.proofs.line.PlaceLemmas.{alert_forward, breaks_stay}
pub use Rattle.markdown_scanners_tree.proofs.line.RestLemmas.{rest_within}
pub use Rattle.markdown_scanners_tree.proofs.line.run.StateRunLemmas.{run_at_front, run_in_parts, run_stopped}
pub use Rattle.markdown_scanners_tree.proofs.linklabel.LabelLengths.{one_label_unskipped}
pub use Rattle.markdown_scanners_tree.proofs.linklabel.OneLabel.{one_label, one_label_in_bytes}
pub use Rattle.markdown_scanners_tree.proofs.scanners.Scanned.{same_pieces, thematic_breaks, blank_lines, offset_of_rest}
pub use Rattle.markdown_scanners_tree.proofs.scanners.Scanned.{one_atx_heading, one_blank_line, one_closing_fence, one_closing_metadata, one_code_fence}
pub use Rattle.markdown_scanners_tree.proofs.scanners.Scanned.{one_destination}
pub use Rattle.markdown_scanners_tree.proofs.scanners.Scanned.{one_html_block_start, one_html_kind, one_indent, one_item}
pub use Rattle.markdown_scanners_tree.proofs.scanners.Scanned.{one_metadata_block, one_quote_start, one_reference, one_reference_definition, one_row}
pub use Rattle.markdown_scanners_tree.proofs.scanners.Scanned.{one_separated_title, one_tag, one_tag_alone, one_title, one_underline, one_uri}
pub use Rattle.markdown_scanners_tree.proofs.scanners.breaks.BreakLemmas.{is_thematic_break-found}
pub use Rattle.markdown_scanners_tree.proofs.scanners.html_kinds.StartLemmas.{none_unopened}
pub use Rattle.markdown_scanners_tree.proofs.scanners.lines.BlankLemmas.{first-line_ending}
pub use Rattle.markdown_scanners_tree.proofs.scanners.lines.LaneLemmas.{at_most, ends_within, goes_past}
pub use Rattle.markdown_scanners_tree.proofs.scanners.reference_definitions.DefinitionLemmas.{raw_offset}
pub use Rattle.markdown_scanners_tree.proofs.scanners.reference_definitions.GapLemmas.{IsSolid, destination_solid, title_solid, gap_only, one_gap, gap_there}
pub use Rattle.markdown_scanners_tree.proofs.scanners.reference_definitions.GapLemmas.{gap_scanned, cut_after_gap, cut_after_rest}
pub use Rattle.markdown_scanners_tree.proofs.scanners.runs.CallableLemmas.{callable_in_turn}
pub use Rattle.markdown_scanners_tree.proofs.scanners.text_lines.LineSteps.{first_line-taken, lines_joined}

-- A text has one answer: two that meet a definition there are equal.
pub ruleset only_answers = (
  one_atx_heading,
  one_blank_line,
  one_closing_fence,
  one_closing_metadata,
  one_code_fence,
  one_destination,
  one_html_block_start,
  one_html_kind,
  one_indent,
  one_item,
  one_label,
  one_label_in_bytes,
  one_label_unskipped,
  one_metadata_block,
  one_quote_start,
  one_reference,
  one_reference_definition,
  one_row,
  one_separated_title,
  one_tag,
  one_tag_alone,
  one_title,
  one_underline,
  one_uri,
  same_pieces,
)
